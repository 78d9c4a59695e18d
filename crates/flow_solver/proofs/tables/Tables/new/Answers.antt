use Rattle.std.proofs.Common.{add-one, ◌≡◌, ◌∙◌, ◌+◌, ◌-◌, ◌<◌, ℕ, suc, ℤ, arith, pos, false, List, [], ◌∷◌, map, drop, length, replicate, ap, sym, subst, inl, inr}
use Rattle.std.specs.List.{AllZip}
use Rattle.std.proofs.lemmas.Bool.{cases_lt, false≢true, true≢false}
use Rattle.std.proofs.lemmas.Grind.{get_or_after_one}
use Rattle.std.proofs.lemmas.Int.{ints}
use Rattle.std.proofs.lemmas.List.{get_or_past, get_or-replicate, length-map, length-replicate}
use Rattle.dimacs_text.specs.declared.problem.ArcRow.{ArcRow}
use Rattle.network.specs.Flow.{AllWithinBounds, FollowsSign, IsCertifiedFlow, IsWithinBounds}
use Rattle.network.specs.Instance.{Instance, IsLawful, at_node, reduced}
use Rattle.flow_solver.specs.Moment.{start}
use Rattle.augmentation.specs.Nodes.{IsIdleEntry}
use Rattle.residual_graph.specs.Residual.{IsRow, number_at, row_at}
use Rattle.residual_graph.proofs.Pseudoflows.{rows_of_instance}
use Rattle.flow_solver.proofs.tables.Tables.new.Goals as goal
use Rattle.flow_solver.proofs.tables.Tables.new.Goals.{In_ok-potentials}

-- with potentials 0 the reduced cost is the cost, by whose sign the flow at the start is chosen
start_fits : (n : ℕ) (q : ℕ → ℤ) (a : ArcRow) → IsRow n a → ((v : ℕ) → q v ≡ pos 0) → IsWithinBounds a (start a) × FollowsSign q a (start a)
start_fits n q a row zero_at =
    let order = row.low_at_most_cap in
    let tail = zero_at a.tail in
    let head = zero_at a.head in
    ((grind (arith, ints), grind (arith, ints)), record { dear = λ dear. grind (arith, ints); cheap = λ cheap. grind (arith, ints) })

start_keeps : (n : ℕ) (q : ℕ → ℤ) (arcs : List ArcRow) → ((k : ℕ) → k < length arcs → IsRow n (row_at arcs k)) → ((v : ℕ) → q v ≡ pos 0) → AllWithinBounds arcs (map start arcs) × AllZip (FollowsSign q) arcs (map start arcs)
start_keeps n q [] rows zero_at = (tt, tt)
start_keeps n q (a ∷ arcs) rows zero_at =
    let here = start_fits n q a (rows 0 (omega arith)) zero_at in
    let rest = start_keeps n q arcs (λ k lt. rows (suc k) (omega arith)) zero_at in
    ((here.0, rest.0), (here.1, rest.1))

start_certified : (I : Instance) (q : ℕ → ℤ) → IsLawful I → ((v : ℕ) → q v ≡ pos 0) → IsCertifiedFlow (reduced I) (map start (reduced I).arcs) q
start_certified I q lawful zero_at =
    let keeps = start_keeps (I.nodes + 1) q (reduced I).arcs (rows_of_instance I lawful) zero_at in
    record { bounds = keeps.0; signs = keeps.1; range = λ v node. (omega (arith, ints, zero_at v), omega (arith, ints, zero_at v)) }

zero_entries : (n v : ℕ) → at_node (drop 1 (replicate n (pos 0))) v ≡ pos 0
zero_entries n v = get_or_after_one (replicate n (pos 0)) (v - 1) (pos 0) ∙ elim (cases_lt (1 + (v - 1)) n) [
  | inl lt ↦ get_or-replicate n (1 + (v - 1)) (pos 0) (pos 0) lt
  | inr past ↦ get_or_past (replicate n (pos 0)) (1 + (v - 1)) (pos 0) (omega (arith, past, length-replicate n (pos 0)))
]

-- a potential of 0 is within its limits
idle_zeros : (n : ℕ) → IsIdleEntry (replicate (n + 1) (pos 0))
idle_zeros n =
    let first : number_at (replicate (n + 1) (pos 0)) 0 ≡ pos 0 = ap (λ (k : ℕ). number_at (replicate k (pos 0)) 0) (add-one n) in
    (omega (arith, ints, first), omega (arith, ints, first))

-- the flow is that of the start
started : (c : In_ok-potentials) → c.in_ok-flow.flow.entries ≡ map start (reduced c.new-graph.result.net).arcs
started c = c.in_ok-flow.ensures.flow ∙ ap (map start) c.new-graph.ensures.graph.rows.rows_are

pub invariant_of-result : goal.invariant_of-result
invariant_of-result c =
    let graph = c.new-graph.result in
    let nodes = c.in_ok-potentials.ensures in
    let entries : c.nodes.result + 1 ≡ graph.net.nodes + 1 = ap (λ (n : ℕ). n + 1) (c.nodes.ensures.value ∙ ap (λ (I : Instance). I.nodes) c.network-2.ensures) in
    record {
      fit = record {
        graph = c.new-graph.ensures.graph;
        flow_in = ap (λ (xs : List ℤ). length xs) c.in_ok-flow.ensures.flow ∙ length-map graph.rows start;
        flow_whole = ap (λ (xs : List ℤ). length xs) c.in_ok-flow.ensures.whole ∙ length-map graph.rows start;
        flow_fits = omega (arith, c.in_ok-flow.ensures.room);
        potentials_in = record { entries_in = rw nodes.potentials (length-replicate (c.nodes.result + 1) (pos 0) ∙ entries); kept_in = rw nodes.potentials_kept (length-replicate (c.nodes.result + 1) (pos 0) ∙ entries) };
        idle = subst IsIdleEntry (sym nodes.potentials) (idle_zeros c.nodes.result);
        kept_idle = subst IsIdleEntry (sym nodes.potentials_kept) (idle_zeros c.nodes.result);
        cut_in = record { entries_in = rw nodes.cut (length-replicate (c.nodes.result + 1) false ∙ entries); kept_in = rw nodes.cut_kept (length-replicate (c.nodes.result + 1) false ∙ entries) };
        scratch_in = nodes.scratch ∙ entries;
      };
      balance_is = c.in_ok-flow.ensures.balance;
      told = λ stood. absurd (false≢true (sym nodes.told ∙ stood));
      step = λ few. absurd (true≢false (sym nodes.apart ∙ few));
      held = λ found. absurd (true≢false (sym nodes.lost ∙ found));
      log_fits = omega (arith, c.in_ok-log.ensures.capacity);
      before_is = tt;
    }

pub returns-clause-start : goal.returns-clause-start
returns-clause-start c =
    let graph = c.new-graph.ensures in
    let one_more : c.new-graph.result.net.nodes + 1 ≡ suc c.new-graph.result.net.nodes = omega arith in
    record {
      instance = graph.net;
      flow = started c ∙ ap (λ (I : Instance). map start (reduced I).arcs) graph.net;
      potentials = ap (drop 1) c.in_ok-potentials.ensures.potentials ∙ ap (λ (n : ℕ). drop 1 (replicate (n + 1) (pos 0))) (c.nodes.ensures.value ∙ ap (λ (I : Instance). I.nodes) c.network-2.ensures) ∙ ap (λ (n : ℕ). drop 1 (replicate n (pos 0))) one_more ∙ ap (λ (I : Instance). replicate I.nodes (pos 0)) graph.net;
    }

pub returns-clause-certified : goal.returns-clause-certified
returns-clause-certified c =
    let I = c.new-graph.result.net in
    let potentials = c.in_ok-potentials.potentials.table.entries in
    subst (λ (x : List ℤ). IsCertifiedFlow (reduced I) x (at_node (drop 1 potentials))) (sym (started c))
    (start_certified I (at_node (drop 1 potentials)) c.new-graph.ensures.graph.rows.lawful (λ v. ap (λ (p : List ℤ). at_node (drop 1 p) v) c.in_ok-potentials.ensures.potentials ∙ zero_entries (c.nodes.result + 1) v))

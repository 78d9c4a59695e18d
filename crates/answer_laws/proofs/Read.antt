-- The text of a flow with its potentials is read as these.
use Rattle.std.proofs.Common.{◌≡◌, ℕ, ◌+◌, ◌<◌, ◌^◌, Ok, ℤ, List, [], ◌∷◌, ◌++◌, length, length-append, append-nil, append_assoc, refl, sym, ap, subst, arith}
use Rattle.std.specs.Prelude.{unsigned_abs}
use Rattle.std.specs.Fmt.{decimal, signed_decimal}
use Rattle.dimacs_lines.specs.Lines.{Line}
use Rattle.answer_text.specs.declared.answer.FlowLine.{FlowLine}
use Rattle.answer_text.specs.declared.answer.Answer.TheVariants.{Flow}
use Rattle.answer_text.specs.Answer.{answers}
use Rattle.answer_text.proofs.SaidLemmas.{said_of_nothing}
use Rattle.engines.specs.Printing.{potential_lines}
use Rattle.answer_laws.specs.Text.{FlowsFit, PotentialsFit, written, written_flows}
use Rattle.dimacs_lines.proofs.Written.{integer_written}
use Rattle.dimacs_lines.proofs.Cutting.{joined, joined-append, AllPlain, AllPlain-append, lines_joined}
use Rattle.answer_laws.proofs.Steps.{Reads, Reads-append, faultless, said_at_end, told, nothing_told, s_line, f_line, v_line, value_reads, flow_reads, flow_plain, potential_reads, potential_plain, same_number}

f_lines : List FlowLine → List Line
f_lines [] = []
f_lines (l ∷ ls) = f_line l ∷ f_lines ls

v_lines : ℕ → List ℤ → List Line
v_lines id [] = []
v_lines id (p ∷ ps) = v_line id p ∷ v_lines (id + 1) ps

module _ (nodes : ℕ) (few : nodes < 10 ^ 18) (w : ℤ) where
  flows_read : (arcs : ℕ) (done ls : List FlowLine) → length done + length ls ≡ arcs → FlowsFit nodes ls → Reads nodes arcs (told w done []) (f_lines ls) (told w (done ++ ls) [])
  unfolding f_lines
  flows_read arcs done [] is fit = ap (λ (ds : List FlowLine). told w ds []) (sym (append-nil done))
  flows_read arcs done (l ∷ ls) is fit =
      let x = fit.0.2 in
      let one = flow_reads nodes arcs few w done l (omega arith) fit.0.0 fit.0.1 x.0 x.1 x.2 in
      let more = flows_read arcs (done ++ l ∷ []) ls (omega (arith, length-append done (l ∷ []))) fit.1 in
      Reads-append nodes arcs (f_line l ∷ []) (f_lines ls) (told w done []) (told w (done ++ l ∷ []) []) (told w (done ++ l ∷ ls) []) one
      (subst (λ (ds : List FlowLine). Reads nodes arcs (told w (done ++ l ∷ []) []) (f_lines ls) (told w ds [])) (append_assoc done (l ∷ []) ls) more)

  flows_plain : (arcs : ℕ) (done ls : List FlowLine) → length done + length ls ≡ arcs → FlowsFit nodes ls → AllPlain (f_lines ls)
  unfolding f_lines
  flows_plain arcs done [] is fit = tt
  flows_plain arcs done (l ∷ ls) is fit =
      let x = fit.0.2 in
      (flow_plain nodes arcs few w done l (omega arith) fit.0.0 fit.0.1 x.0 x.1 x.2, flows_plain arcs (done ++ l ∷ []) ls (omega (arith, length-append done (l ∷ []))) fit.1)

  potentials_read : (arcs : ℕ) (fs : List FlowLine) → length fs ≡ arcs → (done ps : List ℤ) → length done + length ps ≡ nodes → PotentialsFit ps
      → Reads nodes arcs (told w fs done) (v_lines (length done + 1) ps) (told w fs (done ++ ps))
  unfolding v_lines
  potentials_read arcs fs all done [] is fit = ap (told w fs) (sym (append-nil done))
  potentials_read arcs fs all done (p ∷ ps) is fit =
      let one = potential_reads nodes arcs few w fs all done p (omega arith) fit.0 in
      let len : length (done ++ p ∷ []) ≡ length done + 1 = length-append done (p ∷ []) in
      let more = potentials_read arcs fs all (done ++ p ∷ []) ps (omega (arith, len)) fit.1 in
      Reads-append nodes arcs (v_line (length done + 1) p ∷ []) (v_lines (length done + 1 + 1) ps) (told w fs done) (told w fs (done ++ p ∷ [])) (told w fs (done ++ p ∷ ps)) one
      (subst (λ (ds : List ℤ). Reads nodes arcs (told w fs (done ++ p ∷ [])) (v_lines (length done + 1 + 1) ps) (told w fs ds)) (append_assoc done (p ∷ []) ps)
      (subst (λ (k : ℕ). Reads nodes arcs (told w fs (done ++ p ∷ [])) (v_lines (k + 1) ps) (told w fs (done ++ p ∷ [] ++ ps))) len more))

  potentials_plain : (arcs : ℕ) (fs : List FlowLine) → length fs ≡ arcs → (done ps : List ℤ) → length done + length ps ≡ nodes → PotentialsFit ps → AllPlain (v_lines (length done + 1) ps)
  unfolding v_lines
  potentials_plain arcs fs all done [] is fit = tt
  potentials_plain arcs fs all done (p ∷ ps) is fit =
      let len : length (done ++ p ∷ []) ≡ length done + 1 = length-append done (p ∷ []) in (
        potential_plain nodes arcs few w fs all done p (omega arith) fit.0,
        subst (λ (k : ℕ). AllPlain (v_lines (k + 1) ps)) len (potentials_plain arcs fs all (done ++ p ∷ []) ps (omega (arith, len)) fit.1),
      )

-- ---- the text

three : (a b c y : List ℕ) → a ++ 32 ∷ [] ++ b ++ 32 ∷ [] ++ c ++ 10 ∷ [] ++ y ≡ (a ++ 32 ∷ (b ++ 32 ∷ c)) ++ 10 ∷ y
three a b c y = simp append_assoc refl

two : (a c y : List ℕ) → a ++ 32 ∷ [] ++ c ++ 10 ∷ [] ++ y ≡ (a ++ 32 ∷ c) ++ 10 ∷ y
two a c y = simp append_assoc refl

flows_text : (ls : List FlowLine) → written_flows ls ≡ joined (f_lines ls)
unfolding f_lines
flows_text [] = refl
flows_text (l ∷ ls) = rw (flows_text ls) (ap (λ (t : List ℕ). 102 ∷ 32 ∷ t) (three (decimal l.tail) (decimal l.head) (signed_decimal l.flow) (joined (f_lines ls))))

potentials_text : (id : ℕ) (ps : List ℤ) → potential_lines id ps ≡ joined (v_lines id ps)
unfolding v_lines
potentials_text id [] = refl
potentials_text id (p ∷ ps) = rw (potentials_text (id + 1) ps) (ap (λ (t : List ℕ). 118 ∷ 32 ∷ t) (two (decimal id) (signed_decimal p) (joined (v_lines (id + 1) ps))))

all_lines : ℤ → List FlowLine → List ℤ → List Line
all_lines w ls ps = s_line w ∷ (f_lines ls ++ v_lines 1 ps)

text_is : (w : ℤ) (ls : List FlowLine) (ps : List ℤ) → written w ls ps ≡ joined (all_lines w ls ps)
unfolding all_lines
text_is w ls ps =
    rw (flows_text ls, potentials_text 1 ps, joined-append (f_lines ls) (v_lines 1 ps)) (ap (λ (t : List ℕ). 115 ∷ 32 ∷ t) (append_assoc (signed_decimal w) (10 ∷ []) (joined (f_lines ls) ++ joined (v_lines 1 ps))))

module _ (nodes : ℕ) (w : ℤ) (ls : List FlowLine) (ps : List ℤ) (few : nodes < 10 ^ 18) (one_a_node : length ps ≡ nodes) (small : unsigned_abs w < 10 ^ 30) (flows : FlowsFit nodes ls) (potentials : PotentialsFit ps) where
  reads : Reads nodes (length ls) nothing_told (all_lines w ls ps) (told w ls ps)
  unfolding all_lines
  reads =
      Reads-append nodes (length ls) (s_line w ∷ []) (f_lines ls ++ v_lines 1 ps) nothing_told (told w [] []) (told w ls ps) (value_reads nodes (length ls) w small)
      (Reads-append nodes (length ls) (f_lines ls) (v_lines 1 ps) (told w [] []) (told w ls []) (told w ls ps) (flows_read nodes few w (length ls) [] ls (omega arith) flows) (potentials_read nodes few w (length ls) ls refl [] ps (omega (arith, one_a_node)) potentials))

  plain : AllPlain (all_lines w ls ps)
  unfolding all_lines
  plain = ((integer_written 30 w (omega arith) small (omega arith)).plain, AllPlain-append (f_lines ls) (v_lines 1 ps) (flows_plain nodes few w (length ls) [] ls (omega arith) flows) (potentials_plain nodes few w (length ls) ls refl [] ps (omega (arith, one_a_node)) potentials))

  pub written_read : answers nodes (length ls) (written w ls ps) ≡ Ok (Flow w ls ps)
  unfolding answers
  written_read =
      rw (text_is w ls ps, lines_joined (all_lines w ls ps) plain, faultless nodes (length ls) [] (all_lines w ls ps) nothing_told (told w ls ps) said_of_nothing reads, said_at_end nodes (length ls) [] (all_lines w ls ps) nothing_told (told w ls ps) said_of_nothing reads, same_number (length ls) (length ls) refl, same_number (length ps) nodes one_a_node) refl

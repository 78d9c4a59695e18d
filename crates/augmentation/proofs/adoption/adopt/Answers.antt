use Rattle.std.proofs.Common.{◌≡◌, ◌∙◌, ℕ, ap, arith, length, subst, sym}
use Rattle.residual_graph.specs.Graph.{HasEntries}
use Rattle.residual_graph.specs.Residual.{IsPseudoflow}
use Rattle.shortest_paths.specs.Tree.{AreInStep, TreeView}
use Rattle.augmentation.specs.Certificate.{AreCertifying}
use Rattle.flow_changes.specs.Exchange.{IsExchange}
use Rattle.augmentation.specs.ScratchView.{ScratchView}
use Rattle.augmentation.specs.Settle.{AreShortest}
use Rattle.augmentation.proofs.CertificateLemmas.{within_potentials}
use Rattle.flow_changes.proofs.ChangeLemmas.{pushes_of_change}
use Rattle.flow_changes.proofs.ExchangeLemmas.{small_nearer}
use Rattle.augmentation.proofs.HeldLemmas.{held_by, shortest_of}
use Rattle.augmentation.proofs.adoption.adopt.Goals as goal

pub returns-clause-adopted : goal.returns-clause-adopted
returns-clause-adopted c =
    let rows = c.args.graph.now.rows in
    let nodes = length c.args.excess.now in
    let x = c.args.flow.now.entries in
    let e = c.args.excess.now in
    let y = c.lead.new.flow.entries in
    let f = c.lead.new.excess in
    let t = c.is_renewed.new.tree in
    let p = c.write_labels.new.table.entries in
    let n = c.in_ok-count.count in
    let moved : IsExchange nodes rows n x e y f = c.in_ok-count.ensures.led.exchange in
    let sized : length p ≡ nodes = c.write_labels.ensures.written.same_length ∙ sym c.requires.ready.state.excess_in in
    let tested = c.is_renewed.ensures.tested c.if-not-is_renewed.false in
    let certifying : AreCertifying rows y p = subst (AreCertifying rows y) (sym c.write_labels.ensures.entries) tested.certifying in
    record {
      certified = record {
        ready = record {
          state = record {
            graph = subst (λ (m : ℕ). HasEntries m c.args.graph.now) (sym (sized ∙ c.requires.ready.state.excess_in)) c.requires.ready.state.graph;
            certified = record {
              flow = subst (λ (m : ℕ). IsPseudoflow m rows y) (sym sized) moved.change.after;
              potentials = within_potentials (length p) p certifying.0;
              none_below = certifying.1;
            };
            excess_in = moved.change.after_sized ∙ sym sized;
            small = small_nearer e f moved.change.small moved.change.nearer;
          };
          in_range = certifying.0;
        };
        pushes = pushes_of_change nodes rows x e y f moved.ranks moved.change n moved.units;
      };
      shortest = subst (AreShortest rows y) (sym c.write_labels.ensures.entries) (shortest_of nodes rows y t.labels t.predecessors moved.change.after (sym (ap length c.write_labels.ensures.entries) ∙ sized) tested);
    }

pub returns-clause-held : goal.returns-clause-held
returns-clause-held c =
    let moved = c.in_ok-count.ensures.led.exchange in
    let t = c.is_renewed.new.tree in
    held_by c.args.graph.now.rows c.lead.new.flow.whole c.lead.new.flow.entries t.labels t.predecessors c.places.result.now c.accept.new.self
    (omega (arith, moved.change.after.same_length, c.places.ensures.as_many)) c.accept.ensures.labels c.accept.ensures.predecessors c.places.ensures.all_named c.accept.ensures.noted (c.is_renewed.ensures.tested c.if-not-is_renewed.false)

pub returns-then-not-is_renewed-clause-step : goal.returns-then-not-is_renewed-clause-step
returns-then-not-is_renewed-clause-step c =
    c.is_renewed.ensures.step c.args.potentials.now.entries
    (subst (λ (t : TreeView). AreInStep t c.args.potentials.now.entries) (sym (c.lower.ensures ∙ ap (λ (v : ScratchView). v.tree) c.scratch.view_is)) c.requires.step)

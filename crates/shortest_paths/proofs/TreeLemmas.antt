-- Labels of a tree that are written again and again.
use Rattle.std.proofs.Common.{◌∙◌, refl}
use Rattle.shortest_paths.specs.Tree.{IsRelabelled, TreeView}

-- what was written before and what is written since are marked
pub relabelled_on : {t u w : TreeView} → IsRelabelled t u → IsRelabelled u w → IsRelabelled t w
relabelled_on {t} {u} {w} first rest = record {
  labels = λ v out.
      (let late = rest.labels v out in
      let early = first.labels v late.0 in
      (early.0, λ d. late.1 d ∙ early.1 d));
  predecessors = λ v out.
      (let late = rest.predecessors v out in
      let early = first.predecessors v late.0 in
      (early.0, λ d. late.1 d ∙ early.1 d));
  noted = rest.noted ∙ first.noted;
  beside = rest.beside ∙ first.beside;
  lost = rest.lost ∙ first.lost;
  apart = rest.apart ∙ first.apart;
}

-- nothing was written
pub relabelled_none : (t : TreeView) → IsRelabelled t t
relabelled_none t = record {
  labels = λ v out. (out, λ d. refl);
  predecessors = λ v out. (out, λ d. refl);
  noted = refl;
  beside = refl;
  lost = refl;
  apart = refl;
}

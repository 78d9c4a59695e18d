-- An instance stays lawful as an arc is added, taken off or changed, or a supply is changed.
use Rattle.std.proofs.Common.{◌≡◌, ℕ, ◌<◌, ℤ, List, [], ◌∷◌, ◌++◌, length, set, length-set, Option, refl, ◌∙◌, arith}
use Rattle.std.proofs.lemmas.List.{length_push, get_or_append_left, get_or_push}
use Rattle.std.proofs.lemmas.List.Elements.{All-push, All-set}
use Rattle.dimacs_text.specs.declared.problem.ArcRow.{ArcRow}
use Rattle.dimacs_text.specs.declared.problem.Kind.TheVariants.{Min}
use Rattle.dimacs_text.specs.declared.problem.TheConstants.{SUPPLY_LIMIT}
use Rattle.dimacs_text.specs.Lawful.{IsLawfulRow, IsWithin}
use Rattle.network.specs.declared.Goal.{Goal}
use Rattle.network.specs.declared.Goal.TheVariants.{LeastCost}
use Rattle.network.specs.Instance.{IsLawful, ArcFits, kind_of}
use Rattle.network.specs.Representation.{demand_by, instance_of, IsSound}

pub lawful_push : (nodes : ℕ) (goal : Goal) (supplies : List ℤ) (arcs : List ArcRow) (room : ℕ) (row : ArcRow) → IsLawful (instance_of nodes goal supplies arcs room)
    → length arcs < room → IsLawfulRow nodes row → ArcFits (demand_by goal supplies) row → IsLawful (instance_of nodes goal supplies (arcs ++ row ∷ []) room)
lawful_push nodes goal supplies arcs room row lawful free limits fits = record {
  nodes = lawful.nodes;
  demand = lawful.demand;
  arcs = All-push (λ arc. IsLawfulRow nodes arc × ArcFits (demand_by goal supplies) arc) arcs row lawful.arcs (limits, fits);
  count = let l = length_push arcs row in omega arith;
  room = lawful.room;
}

pub lawful_pop : (nodes : ℕ) (goal : Goal) (supplies : List ℤ) (arcs : List ArcRow) (room : ℕ) (row : ArcRow) → IsLawful (instance_of nodes goal supplies (arcs ++ row ∷ []) room)
    → IsLawful (instance_of nodes goal supplies arcs room) × IsLawfulRow nodes row
lawful_pop nodes goal supplies arcs room row lawful =
    let more = length_push arcs row in
    let last = lawful.arcs (length arcs) row (omega arith) in (
      record {
        nodes = lawful.nodes;
        demand = lawful.demand;
        arcs = λ k d h. rw (get_or_append_left arcs (row ∷ []) d k h) at (lawful.arcs k d (omega arith));
        count = omega (arith, lawful.count);
        room = lawful.room;
      },
      (rw (get_or_push arcs row row (length arcs) refl) at last).0,
    )

pub lawful_set : (nodes : ℕ) (goal : Goal) (supplies : List ℤ) (arcs : List ArcRow) (room k : ℕ) (row : ArcRow) → IsLawful (instance_of nodes goal supplies arcs room)
    → IsLawfulRow nodes row → ArcFits (demand_by goal supplies) row → IsLawful (instance_of nodes goal supplies (set arcs k row) room)
lawful_set nodes goal supplies arcs room k row lawful limits fits = record {
  nodes = lawful.nodes;
  demand = lawful.demand;
  arcs = All-set (λ arc. IsLawfulRow nodes arc × ArcFits (demand_by goal supplies) arc) arcs k row (limits, fits) lawful.arcs;
  count = let l = length-set arcs k row in omega (arith, lawful.count);
  room = lawful.room;
}

-- ---- another supply

pub sound_supply : (nodes : ℕ) (goal : Goal) (supplies : List ℤ) (rows : List ArcRow) (room : ℕ) (ends next : List (Option ℕ)) (rows_room next_room k : ℕ) (x : ℤ)
    → kind_of (demand_by goal supplies) ≡ Min → IsWithin SUPPLY_LIMIT x → IsSound nodes goal supplies rows room ends next rows_room next_room
    → IsSound nodes goal (set supplies k x) rows room ends next rows_room next_room
sound_supply nodes LeastCost supplies rows room ends next rows_room next_room k x kind within sound = record {
  rows_are = sound.rows_are;
  lawful = record {
    nodes = sound.lawful.nodes;
    demand = (length-set supplies k x ∙ sound.lawful.demand.0, All-set (IsWithin SUPPLY_LIMIT) supplies k x within sound.lawful.demand.1);
    arcs = λ i d below. ((sound.lawful.arcs i d below).0, tt);
    count = sound.lawful.count;
    room = sound.lawful.room;
  };
  supplies_len = length-set supplies k x ∙ sound.supplies_len;
  supply_is = λ v least most. refl;
  supplies_small = All-set (IsWithin SUPPLY_LIMIT) supplies k x within sound.supplies_small;
  lists = sound.lists;
  rows_fit = sound.rows_fit;
  ends_fit = sound.ends_fit;
}
sound_supply nodes _ supplies rows room ends next rows_room next_room k x kind within sound = absurd (cc kind)

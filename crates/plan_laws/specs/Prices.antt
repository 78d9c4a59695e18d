-- What other supplies and wider bounds can do to the least cost.
use Rattle.std.specs.Prelude.{◌≡◌, ℕ, ◌==◌, ℤ, pos, ◌+ℤ◌, ◌-ℤ◌, ◌*ℤ◌, ◌≤ℤ◌, if◌then◌else◌, List}
use Rattle.std.specs.List.{AllZip}
use Rattle.dimacs_text.specs.declared.problem.ArcRow.{ArcRow}
use Rattle.network.specs.Flow.{MinCost, nodes_sum}
use Rattle.network.specs.Instance.{Instance, Supplies}

-- the same nodes and arcs with other supplies
abbrev pub resupplied : MinCost → (ℕ → ℤ) → MinCost
resupplied I supply = record { nodes = I.nodes; supply = supply; arcs = I.arcs }

-- what the potentials make of a change of supplies: at each node its potential times what it supplies less than before
abbrev pub price_of : ℕ → (ℕ → ℤ) → (ℕ → ℤ) → (ℕ → ℤ) → ℤ
price_of nodes potential old new = nodes_sum nodes (λ v. potential v *ℤ (old v -ℤ new v))

-- the supplies once u sends out so many units more, and v takes in so many more
abbrev pub with_shipment : (ℕ → ℤ) → ℕ → ℕ → ℤ → ℕ → ℤ
with_shipment supply u v units w =
    (supply w +ℤ (if u == w then units else pos 0)) -ℤ (if v == w then units else pos 0)

-- the same instance but for the supplies
abbrev pub with_supplies : Instance → List ℤ → Instance
with_supplies I supplies = record { nodes = I.nodes; demand = Supplies supplies; arcs = I.arcs; room = I.room }

-- an arc with the same ends and cost, and bounds that are no tighter
pub record IsNoTighter (old new : ArcRow) : Type 0 where
  pub tail : new.tail ≡ old.tail
  pub head : new.head ≡ old.head
  pub cost : new.cost ≡ old.cost
  pub low : new.low ≤ℤ old.low
  pub cap : old.cap ≤ℤ new.cap

abbrev pub AreNoTighter : List ArcRow → List ArcRow → Type 0
AreNoTighter = AllZip IsNoTighter

abbrev pub with_arcs : Instance → List ArcRow → Instance
with_arcs I arcs = record { nodes = I.nodes; demand = I.demand; arcs = arcs; room = I.room }

-- Which nodes have a supply of their own.
use Rattle.std.proofs.Common.{◌≡◌, ℕ, ◌≤◌, length, refl, arith}
use Rattle.std.specs.List.{All}
use Rattle.dimacs_text.specs.declared.problem.Kind.TheVariants.{Min}
use Rattle.dimacs_text.specs.declared.problem.TheConstants.{SUPPLY_LIMIT}
use Rattle.dimacs_lines.specs.Fields.{IsNode}
use Rattle.dimacs_text.specs.Lawful.{IsWithin}
use Rattle.network.specs.Instance.{Demand, Supplies, kind_of, DemandFits}
use Rattle.flow_solver.specs.TablesView.{supplies_in}

-- a node that has a supply
pub has_supply : (nodes : ℕ) (demand : Demand) (id : ℕ) → DemandFits nodes demand → 1 ≤ id → id ≤ length (supplies_in demand) → (kind_of demand ≡ Min) × IsNode nodes id
has_supply nodes (Supplies supplies) id fits some there = (refl, (some, omega (arith, there, fits.0)))
has_supply nodes _ id fits some there = absurd (omega (arith, some, there))

pub supplies_are : (nodes : ℕ) (demand : Demand) → DemandFits nodes demand → kind_of demand ≡ Min → (length (supplies_in demand) ≡ nodes) × All (IsWithin SUPPLY_LIMIT) (supplies_in demand)
supplies_are nodes (Supplies supplies) fits is_min = fits
supplies_are nodes _ fits is_min = absurd (cc)

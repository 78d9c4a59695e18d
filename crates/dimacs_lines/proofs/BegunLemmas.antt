-- Whether a line is begun.
use Rattle.std.proofs.Common.{◌≡◌, ◌≢◌, Bool, true, false, cond, [], ◌∷◌, Option, Some, None, refl}
use Rattle.dimacs_lines.specs.Lines.{Line}
use Rattle.dimacs_lines.specs.Cut.{Cut, begun_line, has_bytes}

line_of : (complete : Bool) (line : Option Line) → cond complete (Some []) line ≢ Some [] → line ≡ cond complete (Some []) line
line_of true line ne = absurd (ne refl)
line_of false line ne = refl

pub cut_line_of : (cut : Cut) → begun_line cut ≢ Some [] → cut.line ≡ begun_line cut
cut_line_of cut ne = line_of cut.complete cut.line ne

pub bytes_begun : (begun : Option Line) → has_bytes begun ≡ true → begun ≢ Some []
bytes_begun None e = λ h. absurd cc
bytes_begun (Some []) e = absurd cc
bytes_begun (Some (byte ∷ bytes)) e = λ h. absurd cc

pub no_bytes_begun : (begun : Option Line) → has_bytes begun ≡ false → begun ≡ Some []
no_bytes_begun None e = absurd cc
no_bytes_begun (Some []) e = refl
no_bytes_begun (Some (byte ∷ bytes)) e = absurd cc

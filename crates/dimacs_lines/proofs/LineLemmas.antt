-- The lines of a text that goes on.
use Rattle.std.proofs.Common.{◌≡◌, ℕ, Bool, true, false, cond, List, [], ◌∷◌, ◌++◌, append-nil, refl, sym, ap, ◌∙◌}
use Rattle.std.specs.List.{flat_map}
use Rattle.std.proofs.lemmas.Grind.{flat_map-append}
use Rattle.dimacs_lines.specs.Lines.{Line, Parts, is_line_feed, with_first, parts_of}

-- the parts of two texts in a row
abbrev pub joined_parts : List Line → Line → List Line → Line → Parts
joined_parts ended rest [] more = record { ended = ended; rest = rest ++ more }
joined_parts ended rest (line ∷ lines) more = record { ended = ended ++ (rest ++ line) ∷ lines; rest = more }

abbrev pub joined : Parts → Parts → Parts
joined a b = joined_parts a.ended a.rest b.ended b.rest

joined-nil : (lines : List Line) (rest : Line) → joined_parts [] [] lines rest ≡ record { ended = lines; rest = rest }
joined-nil [] rest = refl
joined-nil (line ∷ lines) rest = refl

joined-cons : (first : Line) (ended : List Line) (rest : Line) (lines : List Line) (more : Line) → joined_parts (first ∷ ended) rest lines more ≡ record { ended = first ∷ (joined_parts ended rest lines more).ended; rest = (joined_parts ended rest lines more).rest }
joined-cons first ended rest [] more = refl
joined-cons first ended rest (line ∷ lines) more = refl

with_first-joined : (byte : ℕ) (ended : List Line) (rest : Line) (lines : List Line) (more : Line) →
    with_first byte (joined_parts ended rest lines more).ended (joined_parts ended rest lines more).rest ≡ joined (with_first byte ended rest) (record { ended = lines; rest = more })
with_first-joined byte [] rest [] more = refl
with_first-joined byte [] rest (line ∷ lines) more = refl
with_first-joined byte (first ∷ ended) rest [] more = refl
with_first-joined byte (first ∷ ended) rest (line ∷ lines) more = refl

byte_by : (ended : Bool) (byte : ℕ) (a b : Parts) →
    cond ended (record { ended = [] ∷ (joined a b).ended; rest = (joined a b).rest }) (with_first byte (joined a b).ended (joined a b).rest)
    ≡ joined (cond ended (record { ended = [] ∷ a.ended; rest = a.rest }) (with_first byte a.ended a.rest)) b
byte_by true byte a b = sym (joined-cons [] a.ended a.rest b.ended b.rest)
byte_by false byte a b = with_first-joined byte a.ended a.rest b.ended b.rest

pub parts_of-append : (text more : List ℕ) → parts_of (text ++ more) ≡ joined (parts_of text) (parts_of more)
unfolding parts_of
parts_of-append [] more = sym (joined-nil (parts_of more).ended (parts_of more).rest)
parts_of-append (byte ∷ text) more = rw (parts_of-append text more) (byte_by (is_line_feed byte) byte (parts_of text) (parts_of more))

joined-stay : (ended : List Line) (rest : Line) (lines : List Line) (more : Line) → (others : List Line) × ((joined_parts ended rest lines more).ended ≡ ended ++ others)
joined-stay ended rest [] more = ([], sym (append-nil ended))
joined-stay ended rest (line ∷ lines) more = ((rest ++ line) ∷ lines, refl)

pub ended-stay : (text more : List ℕ) → (others : List Line) × ((parts_of (text ++ more)).ended ≡ (parts_of text).ended ++ others)
ended-stay text more =
    let stay = joined-stay (parts_of text).ended (parts_of text).rest (parts_of more).ended (parts_of more).rest in
    (stay.0, ap (λ (p : Parts). p.ended) (parts_of-append text more) ∙ stay.1)

-- what lines say with one line more
pub flat_map_push : {B : Type 0} (f : Line → List B) (lines : List Line) (line : Line) → flat_map f (lines ++ line ∷ []) ≡ flat_map f lines ++ f line
flat_map_push {B = B} f lines line = flat_map-append f lines (line ∷ []) ∙ ap (λ (ys : List B). flat_map f lines ++ ys) (append-nil (f line))

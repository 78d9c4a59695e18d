-- The turns of lines are the lines, cut.
use Rattle.std.proofs.Common.{◌≡◌, Bool, true, false, List, [], ◌∷◌, ◌++◌, Option, Some, None, append_assoc, refl, sym, ap, subst, ◌∙◌}
use Rattle.std.proofs.lemmas.List.{append-nil}
use Rattle.std.specs.List.{fold}
use Rattle.dimacs_lines.specs.Lines.{Line}
use Rattle.dimacs_text.specs.Command.{opens_group, ends_group}
use Rattle.dimacs_text.specs.Turns.{Turn, Turns, OfLine, OfGroup, and_turn, and_inside, and_outside, turns_of}
use Rattle.run_laws.specs.Cutting.{AreCut, NoneEnds}

abbrev made : List Turn → Option (List Line) → Turns
made whole opened = record { whole = whole; opened = opened }

none_more : (inside : List Line) (line : Line) → NoneEnds inside → ends_group line ≡ false → NoneEnds (inside ++ line ∷ [])
none_more [] line none here = (here, tt)
none_more (other ∷ inside) line none here = (none.0, none_more inside line none.1 here)

-- ---- the turns that the fold makes are such a cut

-- so many turns more come of lines, which follow those of a group that stands open, if one does
abbrev FollowIn : Option (List Line) → List Turn → Option (List Line) → List Line → Type 0
FollowIn None turns opened lines = AreCut turns opened lines
FollowIn (Some inside) turns opened lines = (opening : Line) → opens_group opening ≡ true → NoneEnds inside → AreCut turns opened (opening ∷ inside ++ lines)

record Follows (before : Option (List Line)) (whole : List Turn) (lines : List Line) : Type 0 where
  turns : List Turn
  opened : Option (List Line)
  folded : fold and_turn (made whole before) lines ≡ made (whole ++ turns) opened
  cut : FollowIn before turns opened lines

-- one turn more in front
in_front : (whole : List Turn) (turn : Turn) (turns : List Turn) → (whole ++ turn ∷ []) ++ turns ≡ whole ++ turn ∷ turns
in_front whole turn turns = append_assoc whole (turn ∷ []) turns

inside_more : (inside : List Line) (line : Line) (lines : List Line) → (inside ++ line ∷ []) ++ lines ≡ inside ++ line ∷ lines
inside_more inside line lines = append_assoc inside (line ∷ []) lines

-- what the rest of the lines gives, whatever stood before
abbrev Rest : List Line → Type 0
Rest lines = (before : Option (List Line)) (whole : List Turn) → Follows before whole lines

outside_by : (line : Line) (lines : List Line) (whole : List Turn) → Rest lines → (opens : Bool) → opens_group line ≡ opens → Follows None whole (line ∷ lines)
outside_by line lines whole more true is =
    let rest = more (Some []) whole in
    record {
      turns = rest.turns;
      opened = rest.opened;
      folded = ap (λ (b : Bool). fold and_turn (and_outside b whole line) lines) is ∙ rest.folded;
      cut = rest.cut line is tt;
    }
outside_by line lines whole more false is =
    let rest = more None (whole ++ OfLine line ∷ []) in
    record {
      turns = OfLine line ∷ rest.turns;
      opened = rest.opened;
      folded = ap (λ (b : Bool). fold and_turn (and_outside b whole line) lines) is ∙ rest.folded ∙ ap (λ (ts : List Turn). made ts rest.opened) (in_front whole (OfLine line) rest.turns);
      cut = (lines, record { no_group = is; lines_are = refl }, rest.cut);
    }

inside_by : (inside : List Line) (line : Line) (lines : List Line) (whole : List Turn) → Rest lines → (ends : Bool) → ends_group line ≡ ends → Follows (Some inside) whole (line ∷ lines)
inside_by inside line lines whole more true is =
    let rest = more None (whole ++ OfGroup inside ∷ []) in
    record {
      turns = OfGroup inside ∷ rest.turns;
      opened = rest.opened;
      folded = ap (λ (b : Bool). fold and_turn (and_inside b whole inside line) lines) is ∙ rest.folded ∙ ap (λ (ts : List Turn). made ts rest.opened) (in_front whole (OfGroup inside) rest.turns);
      cut = λ opening opens none. (lines, record { opening = opening; ending = line; opens = opens; none_ends = none; ends = is; lines_are = refl }, rest.cut);
    }
inside_by inside line lines whole more false is =
    let rest = more (Some (inside ++ line ∷ [])) whole in
    record {
      turns = rest.turns;
      opened = rest.opened;
      folded = ap (λ (b : Bool). fold and_turn (and_inside b whole inside line) lines) is ∙ rest.folded;
      cut = λ opening opens none. subst (λ (ls : List Line). AreCut rest.turns rest.opened (opening ∷ ls)) (inside_more inside line lines) (rest.cut opening opens (none_more inside line none is));
    }

follow : (lines : List Line) → Rest lines
follow [] None whole = record { turns = []; opened = None; folded = ap (λ (ts : List Turn). made ts None) (sym (append-nil whole)); cut = refl }
follow [] (Some inside) whole = record {
  turns = [];
  opened = Some inside;
  folded = ap (λ (ts : List Turn). made ts (Some inside)) (sym (append-nil whole));
  cut = λ opening opens none. record { opening = opening; opens = opens; none_ends = none; lines_are = ap (λ (ls : List Line). opening ∷ ls) (append-nil inside) };
}
follow (line ∷ lines) None whole = outside_by line lines whole (follow lines) (opens_group line) refl
follow (line ∷ lines) (Some inside) whole = inside_by inside line lines whole (follow lines) (ends_group line) refl

pub turns_are_cut : (lines : List Line) → AreCut (turns_of lines).whole (turns_of lines).opened lines
turns_are_cut lines =
    let all = follow lines None [] in
    subst (λ (t : Turns). AreCut t.whole t.opened lines) (sym all.folded) all.cut

-- ---- there is no other cut

inside_fold : (whole : List Turn) (before inside others : List Line) → NoneEnds inside → fold and_turn (made whole (Some before)) (inside ++ others) ≡ fold and_turn (made whole (Some (before ++ inside))) others
inside_fold whole before [] others none = ap (λ (ls : List Line). fold and_turn (made whole (Some ls)) others) (sym (append-nil before))
inside_fold whole before (line ∷ inside) others none =
    ap (λ (b : Bool). fold and_turn (and_inside b whole before line) (inside ++ others)) none.0
    ∙ inside_fold whole (before ++ line ∷ []) inside others none.1
    ∙ ap (λ (ls : List Line). fold and_turn (made whole (Some ls)) others) (inside_more before line inside)

folded : (whole turns : List Turn) (opened : Option (List Line)) (lines : List Line) → AreCut turns opened lines → fold and_turn (made whole None) lines ≡ made (whole ++ turns) opened
folded whole [] None lines cut = ap (fold and_turn (made whole None)) cut ∙ ap (λ (ts : List Turn). made ts None) (sym (append-nil whole))
folded whole [] (Some inside) lines cut =
    ap (fold and_turn (made whole None)) cut.lines_are
    ∙ ap (λ (b : Bool). fold and_turn (and_outside b whole cut.opening) inside) cut.opens
    ∙ ap (fold and_turn (made whole (Some []))) (sym (append-nil inside))
    ∙ inside_fold whole [] inside [] cut.none_ends
    ∙ ap (λ (ts : List Turn). made ts (Some inside)) (sym (append-nil whole))
folded whole (OfLine line ∷ turns) opened lines cut =
    ap (fold and_turn (made whole None)) cut.1.lines_are
    ∙ ap (λ (b : Bool). fold and_turn (and_outside b whole line) cut.0) cut.1.no_group
    ∙ folded (whole ++ OfLine line ∷ []) turns opened cut.0 cut.2
    ∙ ap (λ (ts : List Turn). made ts opened) (in_front whole (OfLine line) turns)
folded whole (OfGroup inside ∷ turns) opened lines cut =
    ap (fold and_turn (made whole None)) cut.1.lines_are
    ∙ ap (λ (b : Bool). fold and_turn (and_outside b whole cut.1.opening) (inside ++ cut.1.ending ∷ cut.0)) cut.1.opens
    ∙ inside_fold whole [] inside (cut.1.ending ∷ cut.0) cut.1.none_ends
    ∙ ap (λ (b : Bool). fold and_turn (and_inside b whole inside cut.1.ending) cut.0) cut.1.ends
    ∙ folded (whole ++ OfGroup inside ∷ []) turns opened cut.0 cut.2
    ∙ ap (λ (ts : List Turn). made ts opened) (in_front whole (OfGroup inside) turns)

pub no_other_cut : (turns : List Turn) (opened : Option (List Line)) (lines : List Line) → AreCut turns opened lines → turns_of lines ≡ record { whole = turns; opened = opened }
no_other_cut turns opened lines cut = folded [] turns opened lines cut

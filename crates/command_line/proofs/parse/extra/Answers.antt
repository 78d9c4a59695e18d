use Rattle.std.proofs.Common.{inl, inr, refl, sym, ◌∙◌, codes, arith}
use Rattle.clap.specs.Words.{found_of}
use Rattle.clap.proofs.WalkLemmas.{first_value-rows}
use Rattle.command_line.proofs.MatchLemmas.{extra_is_left_out, extra_is_said, none_above, none_signed, none_unread}
use Rattle.command_line.proofs.parse.extra.Goals as goal

pub returns-in_default : goal.returns-in_default
returns-in_default c = extra_is_left_out _ (sym (first_value-rows (found_of c.args.found.now) (codes "extra")) ∙ sym c.in_default.ensures)

pub returns-in_default-parse : goal.returns-in_default-parse
returns-in_default-parse c =
    let said = sym (first_value-rows (found_of c.args.found.now) (codes "extra")) ∙ sym c.in-Some.ensures in
    (refl, (c.in-Some.word.now, said, none_unread c.in-Some.word.now c.in_default-parse.ensures.value.0))

pub returns-then-starts_with : goal.returns-then-starts_with
returns-then-starts_with c =
    let said = sym (first_value-rows (found_of c.args.found.now) (codes "extra")) ∙ sym c.in-Some.ensures in
    (refl, (c.in-Some.word.now, said, none_signed c.in-Some.word.now (c.if-starts_with.ensures.byte (omega arith) (omega arith) (λ w o h. h))))

pub returns-then-word-gt-DIGIT_LIMIT : goal.returns-then-word-gt-DIGIT_LIMIT
returns-then-word-gt-DIGIT_LIMIT c =
    let said = sym (first_value-rows (found_of c.args.found.now) (codes "extra")) ∙ sym c.in-Some.ensures in
    (refl, (c.in-Some.word.now, said, inr (inl c.if-word-gt-DIGIT_LIMIT.true)))

pub returns-then-extra-gt-EXTRA_LIMIT : goal.returns-then-extra-gt-EXTRA_LIMIT
returns-then-extra-gt-EXTRA_LIMIT c =
    let said = sym (first_value-rows (found_of c.args.found.now) (codes "extra")) ∙ sym c.in-Some.ensures in
    let unsigned = c.if-starts_with.ensures.byte (omega arith) (omega arith) (λ w o h. h) in
    (refl, (c.in-Some.word.now, said, none_above c.in-Some.word.now c.in-Ok.extra unsigned c.in-Ok.ensures.value.0.1 c.if-extra-gt-EXTRA_LIMIT.true))

pub returns : goal.returns
returns c =
    extra_is_said _ c.in-Some.word.now c.in-Ok.extra (sym (first_value-rows (found_of c.args.found.now) (codes "extra")) ∙ sym c.in-Some.ensures)
    c.in-Ok.ensures.value.0 (c.if-starts_with.ensures.byte (omega arith) (omega arith) (λ w o h. h)) c.if-word-gt-DIGIT_LIMIT.false c.if-extra-gt-EXTRA_LIMIT.false

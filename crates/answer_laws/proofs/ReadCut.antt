-- The text of a cut is read as its nodes.
use Rattle.std.proofs.Common.{◌≡◌, ℕ, ◌+◌, ◌-◌, ◌<◌, ◌≤◌, ◌^◌, Bool, true, false, Some, None, Ok, pos, List, [], ◌∷◌, ◌++◌, length, length-append, append-nil, append_assoc, get_or, get_or-append-add, refl, sym, ap, subst, ◌∙◌, arith}
use Rattle.std.specs.Fmt.{decimal}
use Rattle.dimacs_lines.specs.Lines.{Line}
use Rattle.dimacs_lines.specs.Fields.{words_of}
use Rattle.answer_text.specs.declared.answer.Answer.TheVariants.{Cut}
use Rattle.answer_text.specs.Answer.{Said, answers, and_said, read_shortage, read_cut_node, last_node}
use Rattle.answer_text.proofs.SaidLemmas.{said_of_nothing}
use Rattle.engines.specs.Printing.{breach_text, cut_lines}
use Rattle.answer_laws.specs.Text.{ids_from}
use Rattle.dimacs_lines.proofs.Written.{natural_written, last_word, letter_then, number_read}
use Rattle.dimacs_lines.proofs.Cutting.{joined, AllPlain, lines_joined}
use Rattle.answer_laws.proofs.Steps.{Reads, Reads-append, faultless, said_at_end, nothing_told, node_in, short_line, lt_true}

abbrev told_cut : ℕ → List ℕ → Said
told_cut d ids = record { value = None; flows = []; potentials = []; shortage = Some (pos d); cut = ids }

abbrev i_line : ℕ → Line
i_line d = 105 ∷ 32 ∷ decimal d

abbrev k_line : ℕ → Line
k_line id = 107 ∷ 32 ∷ decimal id

shortage_reads : (nodes arcs d : ℕ) → d < 10 ^ 18 → Reads nodes arcs nothing_told (i_line d ∷ []) (told_cut d [])
unfolding read_shortage and_said
shortage_reads nodes arcs d small =
    let k = natural_written 18 d (omega arith) small (omega arith) in
    let words : words_of (i_line d) ≡ (105 ∷ []) ∷ decimal d ∷ [] = letter_then 105 (decimal d) refl ∙ rw (last_word (decimal d) k.some k.solid) refl in
    (told_cut d [], short_line (i_line d) (omega (arith, k.short)), rw (words, number_read d small) refl, rw (words, number_read d small) refl, refl)

node_reads : (nodes arcs d id : ℕ) (done : List ℕ) → nodes < 10 ^ 18 → 1 ≤ id → id ≤ nodes → last_node done < id → Reads nodes arcs (told_cut d done) (k_line id ∷ []) (told_cut d (done ++ id ∷ []))
unfolding read_cut_node and_said
node_reads nodes arcs d id done few some within rises =
    let k = natural_written 18 id (omega arith) (omega arith) (omega arith) in
    let words : words_of (k_line id) ≡ (107 ∷ []) ∷ decimal id ∷ [] = letter_then 107 (decimal id) refl ∙ rw (last_word (decimal id) k.some k.solid) refl in (
      told_cut d (done ++ id ∷ []),
      short_line (k_line id) (omega (arith, k.short)),
      rw (words, node_in nodes id (some, within) few, lt_true (last_node done) id rises) refl,
      rw (words, number_read id (omega arith)) refl,
      refl,
    )

last_is : (done : List ℕ) (id : ℕ) → last_node (done ++ id ∷ []) ≡ id
last_is done id =
    let at : length (done ++ id ∷ []) - 1 ≡ length done + 0 = omega (arith, length-append done (id ∷ [])) in
    ap (λ (k : ℕ). get_or (done ++ id ∷ []) k 0) at ∙ get_or-append-add done (id ∷ []) 0 0

k_lines : ℕ → List Bool → List Line
k_lines id [] = []
k_lines id (true ∷ marks) = k_line id ∷ k_lines (id + 1) marks
k_lines id (false ∷ marks) = k_lines (id + 1) marks

module _ (nodes arcs d : ℕ) (few : nodes < 10 ^ 18) where
  nodes_read : (id : ℕ) (done : List ℕ) (marks : List Bool) → 1 ≤ id → id + length marks ≡ nodes + 1 → last_node done < id → Reads nodes arcs (told_cut d done) (k_lines id marks) (told_cut d (done ++ ids_from id marks))
  unfolding k_lines
  nodes_read id done [] some is rises = ap (told_cut d) (sym (append-nil done))
  nodes_read id done (true ∷ marks) some is rises =
      let more = nodes_read (id + 1) (done ++ id ∷ []) marks (omega arith) (omega arith) (omega (arith, last_is done id)) in
      Reads-append nodes arcs (k_line id ∷ []) (k_lines (id + 1) marks) (told_cut d done) (told_cut d (done ++ id ∷ [])) (told_cut d (done ++ id ∷ ids_from (id + 1) marks)) (node_reads nodes arcs d id done few some (omega arith) rises)
      (subst (λ (ds : List ℕ). Reads nodes arcs (told_cut d (done ++ id ∷ [])) (k_lines (id + 1) marks) (told_cut d ds)) (append_assoc done (id ∷ []) (ids_from (id + 1) marks)) more)
  nodes_read id done (false ∷ marks) some is rises = nodes_read (id + 1) done marks (omega arith) (omega arith) (omega arith)

  nodes_plain : (id : ℕ) (marks : List Bool) → id + length marks ≡ nodes + 1 → AllPlain (k_lines id marks)
  unfolding k_lines
  nodes_plain id [] is = tt
  nodes_plain id (true ∷ marks) is = ((natural_written 18 id (omega arith) (omega arith) (omega arith)).plain, nodes_plain (id + 1) marks (omega arith))
  nodes_plain id (false ∷ marks) is = nodes_plain (id + 1) marks (omega arith)

nodes_text : (id : ℕ) (marks : List Bool) → cut_lines id marks ≡ joined (k_lines id marks)
unfolding k_lines
nodes_text id [] = refl
nodes_text id (true ∷ marks) = rw (nodes_text (id + 1) marks) (ap (λ (t : List ℕ). 107 ∷ 32 ∷ t) (append_assoc (decimal id) (10 ∷ []) (joined (k_lines (id + 1) marks))))
nodes_text id (false ∷ marks) = nodes_text (id + 1) marks

pub cut_read : (nodes arcs d : ℕ) (marks : List Bool) → nodes < 10 ^ 18 → length marks ≡ nodes → d < 10 ^ 18 → answers nodes arcs (breach_text (pos d) marks) ≡ Ok (Cut (pos d) (ids_from 1 marks))
unfolding answers
cut_read nodes arcs d marks few one_a_node small =
    let lines = i_line d ∷ k_lines 1 marks in
    let text : breach_text (pos d) marks ≡ joined lines = rw (nodes_text 1 marks) (ap (λ (t : List ℕ). 105 ∷ 32 ∷ t) (append_assoc (decimal d) (10 ∷ []) (joined (k_lines 1 marks)))) in
    let plain : AllPlain lines = ((natural_written 18 d (omega arith) small (omega arith)).plain, nodes_plain nodes arcs d few 1 marks (omega (arith, one_a_node))) in
    let reads : Reads nodes arcs nothing_told lines (told_cut d (ids_from 1 marks)) = Reads-append nodes arcs (i_line d ∷ []) (k_lines 1 marks) nothing_told (told_cut d []) (told_cut d (ids_from 1 marks)) (shortage_reads nodes arcs d small) (nodes_read nodes arcs d few 1 [] marks (omega arith) (omega (arith, one_a_node)) (omega arith)) in
    rw (text, lines_joined lines plain, faultless nodes arcs [] lines nothing_told (told_cut d (ids_from 1 marks)) said_of_nothing reads, said_at_end nodes arcs [] lines nothing_told (told_cut d (ids_from 1 marks)) said_of_nothing reads) refl

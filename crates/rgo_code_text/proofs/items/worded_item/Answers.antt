use Rattle.std.proofs.Common.{◌≡◌, ℕ, List, Option, Result, IfOk, true, false, sym, ap, ◌∙◌, subst, codes, refl}
use Rattle.std.specs.List.{before_first}
use Rattle.std.specs.Option.{option_map}
use Rattle.std.specs.Str.{bytes_eq}
use Rattle.std.proofs.lemmas.Slice.Eq.{bytes_eq-Decides}
use Rattle.rgo_code_text.specs.declared.items.Item.{Item as CodeItem}
use Rattle.rgo_code_words.specs.Cuts.{is_space, cut_line, nows}
use Rattle.rgo_code_text.specs.Items.{Item, ItemFits, item_line}
use Rattle.rgo_code_text.specs.Lines.{IsCut, IsFittingInstr, spaces, struct_item, global_item, function_item, slot_item, entry_item}
use Rattle.rgo_code_words.specs.Readers.{IsReadFromBytes}
use Rattle.rgo_code_text.specs.Views.{item_of}
use Rattle.rgo_code_text.proofs.line_forms.LinesBack.{struct_read, global_read, function_read, slot_read, entry_read, instr_read}
use Rattle.rgo_code_words.proofs.Options.{if_ok}
use Rattle.rgo_code_text.proofs.items.worded_item.Goals as goal

-- a line that begins with this word
begun : {E : Type 0} (word name : List ℕ) (words : List (List ℕ)) (of : List (List ℕ) → Option Item)
    (r : Result (Option CodeItem) E) → bytes_eq word name ≡ true
    → ((line : List ℕ) → before_first is_space line ≡ name → IsReadFromBytes ItemFits item_line line (of (cut_line (spaces name) line)))
    → IfOk r (λ (o : Option CodeItem). option_map item_of o ≡ of words)
    → IfOk r (λ (o : Option CodeItem). (line : List ℕ) → IsCut line word words → IsReadFromBytes ItemFits item_line line (option_map item_of o))
begun word name words of r t read e =
    let same : word ≡ name = (bytes_eq-Decides word name).0 t in
    if_ok r (λ (o : Option CodeItem). option_map item_of o ≡ of words)
    (λ (o : Option CodeItem). (line : List ℕ) → IsCut line word words → IsReadFromBytes ItemFits item_line line (option_map item_of o)) e
    (λ o e line i. subst (IsReadFromBytes ItemFits item_line line)
    (sym (e ∙ ap of (i.words_are ∙ ap (λ w. cut_line (spaces w) line) same))) (read line (i.first ∙ same)))

other : (word : List ℕ) → bytes_eq word (codes "struct") ≡ false → bytes_eq word (codes "global") ≡ false
    → bytes_eq word (codes "func") ≡ false → bytes_eq word (codes "var") ≡ false → bytes_eq word (codes "entry") ≡ false
    → spaces word ≡ 3
other word a b c d e = rw (c, e, a, b, d) refl

pub returns-then-is : goal.returns-then-is
returns-then-is c =
    begun c.args.word.now (codes "struct") (nows c.args.words.now) struct_item c.a_struct.result (sym c.is.ensures ∙ c.if-is.true)
    struct_read c.a_struct.ensures

pub returns-then-is-2 : goal.returns-then-is-2
returns-then-is-2 c =
    begun c.args.word.now (codes "global") (nows c.args.words.now) global_item c.a_global.result
    (sym c.is-else-is.ensures ∙ c.if-is-2.true) global_read c.a_global.ensures

pub returns-then-is-3 : goal.returns-then-is-3
returns-then-is-3 c =
    begun c.args.word.now (codes "func") (nows c.args.words.now) function_item c.a_function.result
    (sym c.is-else-is-2.ensures ∙ c.if-is-3.true) function_read c.a_function.ensures

pub returns-then-is-4 : goal.returns-then-is-4
returns-then-is-4 c =
    begun c.args.word.now (codes "var") (nows c.args.words.now) slot_item c.a_slot.result
    (sym c.is-else-is-3.ensures ∙ c.if-is-4.true) slot_read c.a_slot.ensures

pub returns-then-is-5 : goal.returns-then-is-5
returns-then-is-5 c =
    begun c.args.word.now (codes "entry") (nows c.args.words.now) entry_item c.an_entry.result
    (sym c.is-else-is-4.ensures ∙ c.if-is-5.true) entry_read c.an_entry.ensures

pub returns-else-is-5 : goal.returns-else-is-5
returns-else-is-5 c =
    let word = c.args.word.now in
    let words = nows c.args.words.now in
    let a : bytes_eq word (codes "struct") ≡ false = sym c.is.ensures ∙ c.if-is.false in
    let b : bytes_eq word (codes "global") ≡ false = sym c.is-else-is.ensures ∙ c.if-is-2.false in
    let f : bytes_eq word (codes "func") ≡ false = sym c.is-else-is-2.ensures ∙ c.if-is-3.false in
    let v : bytes_eq word (codes "var") ≡ false = sym c.is-else-is-3.ensures ∙ c.if-is-4.false in
    let e : bytes_eq word (codes "entry") ≡ false = sym c.is-else-is-4.ensures ∙ c.if-is-5.false in
    if_ok c.an_instr.result
    (λ (o : Option CodeItem). (line : List ℕ) → words ≡ cut_line 3 line → IsReadFromBytes IsFittingInstr item_line line (option_map item_of o))
    (λ (o : Option CodeItem). (line : List ℕ) → IsCut line word words → IsReadFromBytes ItemFits item_line line (option_map item_of o))
    c.an_instr.ensures
    (λ o is line i.
    instr_read line i.not_head i.not_end (ap (λ w. bytes_eq w (codes "struct")) i.first ∙ a)
    (ap (λ w. bytes_eq w (codes "global")) i.first ∙ b) (ap (λ w. bytes_eq w (codes "func")) i.first ∙ f)
    (ap (λ w. bytes_eq w (codes "var")) i.first ∙ v) (ap (λ w. bytes_eq w (codes "entry")) i.first ∙ e) (option_map item_of o)
    (is line (i.words_are ∙ ap (λ n. cut_line n line) (other word a b f v e))))

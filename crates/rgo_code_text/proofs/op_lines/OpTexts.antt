-- The text of an operation is read back, nothing else is read, and no two operations have one text. A print is apart from the others: its
-- strings may contain spaces, so its text is not cut into words.
use Rattle.std.proofs.Common.{◌≡◌, ◌≢◌, ℕ, true, false, true≢false, List, [], ◌∷◌, ◌++◌, length, take, drop, Option, Some, None, refl, sym, ap, subst, ◌∙◌, arith, codes}
use Rattle.std.specs.List.{join_with_byte}
use Rattle.std.specs.Str.{bytes_eq}
use Rattle.std.proofs.lemmas.List.{take-append-drop}
use Rattle.std.proofs.lemmas.Slice.Eq.{bytes_eq-Decides}
use Rattle.rgo_typed.specs.declared.statements.Piece.{Piece}
use Rattle.rgo_code.specs.Code.{CodeOp, Do, Call, Go, Print, Jump, Branch, Return}
use Rattle.rgo_code_words.specs.Cuts.{cut_line}
use Rattle.rgo_code_text.specs.Items.{only_name, OpIsNamed}
use Rattle.rgo_code_text.specs.Ops.{NamedOp, op_text, NamedOpFits, read_op}
use Rattle.rgo_code_words.specs.Pieces.{AreListed}
use Rattle.rgo_code_words.specs.Readers.{IsReadFromBytes, read_regions}
use Rattle.rgo_code_printing.specs.Text.{op_words}
use Rattle.rgo_code_printing.specs.Words.{comma_separated, piece_words, in_one, removes_word}
use Rattle.rgo_code_text.specs.Written.{OpHasText}
use Rattle.rgo_code_words.specs.Worded.{AreRegions}
use Rattle.rgo_code_words.proofs.Cutting.{cut_words, cut_joined, cut_some}
use Rattle.rgo_code_words.proofs.Lacks.{Lacks, all_lack_from, lacks_from}
use Rattle.rgo_code_text.proofs.op_lines.OpWords.{IsPrint, OpWorded, op_worded, removes_from}
use Rattle.rgo_code_text.proofs.op_lines.OpsBack.{op_back, op_is}
use Rattle.rgo_code_words.proofs.Options.{some_same, not_none}
use Rattle.rgo_code_words.proofs.PieceLists.{listed_one}
use Rattle.rgo_code_text.proofs.op_lines.PrintWords.{only_print, print_text, last_one, contains_space}
use Rattle.rgo_code_words.proofs.WordsBack.{regions_back}

-- whether an operation is a print
data Kind (op : CodeOp) : Type 0 where
  print : (pieces : List Piece) (from removes : List ℕ) → op ≡ Print pieces from removes → Kind op
  silent : ¬ (IsPrint op) → Kind op

kind : (op : CodeOp) → Kind op
kind (Do to action from removes) = silent (λ p. p)
kind (Call to n from passes protects removes) = silent (λ p. p)
kind (Go n from passes removes) = silent (λ p. p)
kind (Print pieces from removes) = print pieces from removes refl
kind (Jump target removes) = silent (λ p. p)
kind (Branch test target removes other otherwise) = silent (λ p. p)
kind (Return value) = silent (λ p. p)

-- ---- operations that print nothing

cut_again : (words : List (List ℕ)) → OpWorded words → cut_line 5 (join_with_byte 32 words) ≡ words
cut_again [] w = absurd (omega (arith, w.some))
cut_again (word ∷ words) w =
    cut_words 5 word words (omega (arith, w.short)) (all_lack_from 33 32 (word ∷ words) (omega arith) w.from)

text_back : (o : NamedOp) → NamedOpFits o → ¬ (IsPrint o.op) → read_op (cut_line 5 (op_text o)) ≡ Some o
text_back o f p =
    ap read_op (cut_again (op_words (only_name o.name) o.op) (op_worded o.op o.name f.0 f.1 p)) ∙ op_back o.op o.name f.0 f.1 p

begins : (pieces : List Piece) (from removes name rest : List ℕ)
    → rest ≡ op_text (record { op = Print pieces from removes; name = name }) → bytes_eq (take 6 rest) (codes "print ") ≡ true
begins pieces from removes name rest e =
    (bytes_eq-Decides (take 6 rest) (codes "print ")).1 (ap (take 6) (e ∙ print_text pieces from removes name))

-- text that does not begin with `print`
pub text_read : (text : List ℕ) → bytes_eq (take 6 text) (codes "print ") ≡ false
    → IsReadFromBytes NamedOpFits op_text text (read_op (cut_line 5 text))
text_read text e = by (read_op (cut_line 5 text)) refl
  where
    by : (r : Option NamedOp) → read_op (cut_line 5 text) ≡ r → IsReadFromBytes NamedOpFits op_text text r
    by (Some o) q =
        let i = op_is (cut_line 5 text) o (cut_some 5 text) q in
        (sym (cut_joined 5 text) ∙ ap (join_with_byte 32) i.words_are, i.fits)
    by None q = λ o f t. no_such o f t q (kind o.op)
      where
        no_such : (o : NamedOp) → NamedOpFits o → text ≡ op_text o → read_op (cut_line 5 text) ≡ None → Kind o.op → ⊥
        no_such o f t q (print pieces from removes p) =
            true≢false (sym (begins pieces from removes o.name text
            (t ∙ ap (λ op. op_text (record { op = op; name = o.name })) p)) ∙ e)
        no_such o f t q (silent p) = not_none o (sym q ∙ ap (λ t. read_op (cut_line 5 t)) t ∙ text_back o f p)

pub print_front : (text : List ℕ) → bytes_eq (take 6 text) (codes "print ") ≡ true → codes "print " ++ drop 6 text ≡ text
print_front text e =
    ap (λ t. t ++ drop 6 text) (sym ((bytes_eq-Decides (take 6 text) (codes "print ")).0 e)) ∙ take-append-drop 6 text

-- ---- one operation has a text

regions_one : (rs ss : List ℕ) → AreRegions rs → AreRegions ss → removes_word rs ≡ removes_word ss → rs ≡ ss
regions_one rs ss r s e =
    some_same rs ss (sym (regions_back 45 rs r) ∙ ap (read_regions 45) e ∙ regions_back 45 ss s)

removes_lack : (removes : List ℕ) → AreRegions removes → Lacks 32 (removes_word removes)
removes_lack removes r = lacks_from 33 32 (removes_word removes) (omega arith) (removes_from removes r)

record SamePrint (ps qs : List Piece) (fs gs rs ss : List ℕ) : Type 0 where
  pub pieces : ps ≡ qs
  pub from : fs ≡ gs
  pub removes : rs ≡ ss

nothing : (fs : List ℕ) → length fs ≡ 0 → fs ≡ []
nothing [] e = refl
nothing (f ∷ fs) e = absurd (omega (arith, e))

prints_one : (ps qs : List Piece) (fs gs rs ss : List ℕ) → OpHasText (Print ps fs rs) → OpHasText (Print qs gs ss)
    → join_with_byte 32 (in_one (piece_words ps fs 0) ++ removes_word rs ∷ [])
    ≡ join_with_byte 32 (in_one (piece_words qs gs 0) ++ removes_word ss ∷ []) → SamePrint ps qs fs gs rs ss
prints_one [] [] fs gs rs ss f g e = record {
  pieces = refl;
  from = nothing fs f.1 ∙ sym (nothing gs g.1);
  removes = regions_one rs ss f.3 g.3 e;
}
prints_one [] (q ∷ qs) fs gs rs ss f g e =
    absurd (contains_space (comma_separated (piece_words (q ∷ qs) gs 0)) (removes_word ss) (subst (Lacks 32) e (removes_lack rs f.3)))
prints_one (p ∷ ps) [] fs gs rs ss f g e =
    absurd (contains_space (comma_separated (piece_words (p ∷ ps) fs 0)) (removes_word rs) (subst (Lacks 32) (sym e) (removes_lack ss g.3)))
prints_one (p ∷ ps) (q ∷ qs) fs gs rs ss f g e =
    let same = last_one (comma_separated (piece_words (p ∷ ps) fs 0)) (comma_separated (piece_words (q ∷ qs) gs 0)) (removes_word rs) (removes_word ss) e
    (removes_lack rs f.3) (removes_lack ss g.3) in
    let a : AreListed (comma_separated (piece_words (p ∷ ps) fs 0)) (p ∷ ps) fs =
    record { text = refl; some = some p ps; fit = f.0; values = f.1; small = f.2 } in
    let b : AreListed (comma_separated (piece_words (p ∷ ps) fs 0)) (q ∷ qs) gs =
    record { text = same.front; some = some q qs; fit = g.0; values = g.1; small = g.2 } in
    let l = listed_one (p ∷ ps) (q ∷ qs) (comma_separated (piece_words (p ∷ ps) fs 0)) fs gs a b in
    record { pieces = l.pieces; from = l.from; removes = regions_one rs ss f.3 g.3 same.last }
  where
    some : (p : Piece) (ps : List Piece) → p ∷ ps ≢ []
    some p ps e = cc

same_op : (a b : NamedOp) (op : CodeOp) → a.op ≡ op → b.op ≡ op → a.name ≡ b.name → a ≡ b
same_op a b op e f g =
    ap (λ o. record { op = o; name = a.name }) (e ∙ sym f) ∙ ap (λ n. record { op = b.op; name = n }) g

name_of_print : (o : NamedOp) (pieces : List Piece) (from removes : List ℕ) → o.op ≡ Print pieces from removes → NamedOpFits o
    → o.name ≡ []
name_of_print o pieces from removes e f = subst (λ op. OpIsNamed op o.name) e f.1

pub op_one : (a b : NamedOp) → NamedOpFits a → NamedOpFits b → op_text a ≡ op_text b → a ≡ b
op_one a b f g e = by (kind a.op) (kind b.op)
  where
    by : Kind a.op → Kind b.op → a ≡ b
    by (silent p) (silent q) = some_same a b (sym (text_back a f p) ∙ ap (λ t. read_op (cut_line 5 t)) e ∙ text_back b g q)
    by (silent p) (print ps fs rs q) =
        let t = only_print (join_with_byte 32 (in_one (piece_words ps fs 0) ++ removes_word rs ∷ [])) a f
        (sym (print_text ps fs rs b.name) ∙ sym (ap (λ op. op_text (record { op = op; name = b.name })) q) ∙ sym e) in
        absurd (p (subst IsPrint (sym t.op_is) tt))
    by (print ps fs rs p) (silent q) =
        let t = only_print (join_with_byte 32 (in_one (piece_words ps fs 0) ++ removes_word rs ∷ [])) b g
        (sym (print_text ps fs rs a.name) ∙ sym (ap (λ op. op_text (record { op = op; name = a.name })) p) ∙ e) in
        absurd (q (subst IsPrint (sym t.op_is) tt))
    by (print ps fs rs p) (print qs gs ss q) =
        let text : join_with_byte 32 (in_one (piece_words ps fs 0) ++ removes_word rs ∷ [])
        ≡ join_with_byte 32 (in_one (piece_words qs gs 0) ++ removes_word ss ∷ []) =
        ap (drop 6) (sym (print_text ps fs rs a.name) ∙ sym (ap (λ op. op_text (record { op = op; name = a.name })) p) ∙ e
        ∙ ap (λ op. op_text (record { op = op; name = b.name })) q ∙ print_text qs gs ss b.name) in
        let same = prints_one ps qs fs gs rs ss (subst OpHasText p f.0) (subst OpHasText q g.0) text in
        same_op a b (Print ps fs rs) p
        (q ∙ ap (λ x. Print x gs ss) (sym same.pieces) ∙ ap (λ x. Print ps x ss) (sym same.from)
        ∙ ap (λ x. Print ps fs x) (sym same.removes))
        (name_of_print a ps fs rs p f ∙ sym (name_of_print b qs gs ss q g))

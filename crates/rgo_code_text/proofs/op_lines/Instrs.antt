-- Instructions are read back, and nothing else is read.
use Rattle.std.proofs.Common.{◌≡◌, ◌≢◌, ℕ, ◌<◌, List, [], ◌∷◌, ◌++◌, length, Some, None, refl, sym, ap, ◌∙◌, arith, decimal}
use Rattle.std.specs.List.{join_with_byte}
use Rattle.rgo_code.specs.Code.{CodeInstr, CodeOp, Do, Call, Go, Print, Jump, Branch, Return}
use Rattle.rgo_code_words.specs.Cuts.{cut_line, nth_word}
use Rattle.rgo_code_text.specs.Items.{Item, Head, Struct, Global, Function, Slot, Entry, Instr, End, ItemFits, item_line, only_name, OpIsNamed}
use Rattle.rgo_code_text.specs.Lines.{instr_with, IsFittingInstr}
use Rattle.rgo_code_text.specs.Ops.{NamedOp, NamedOpFits, op_text}
use Rattle.rgo_code_words.specs.Readers.{IsReadFromBytes, read_number, read_lettered, read_regions}
use Rattle.rgo_code_printing.specs.Text.{op_words}
use Rattle.rgo_code_printing.specs.Words.{place_word, creates_word}
use Rattle.rgo_code_text.specs.Written.{OpHasText}
use Rattle.rgo_code_words.specs.Worded.{IsSmallNumber, AreRegions}
use Rattle.rgo_code_words.proofs.Cutting.{cut_more, cut_joined, four_of}
use Rattle.rgo_code_words.proofs.Lacks.{lacks_from, lettered_from}
use Rattle.rgo_code_words.proofs.Numerals.{number_back, number_sound}
use Rattle.rgo_code_words.proofs.Options.{some_same, not_none}
use Rattle.rgo_code_text.proofs.op_lines.OpTexts.{op_one}
use Rattle.rgo_code_text.proofs.op_lines.OpWords.{op_worded, number_from}
use Rattle.rgo_code_words.proofs.WordsBack.{lettered_back, lettered_is, regions_back, regions_is, regions_from}

some_words : (o : NamedOp) → NamedOpFits o → 0 < length (op_words (only_name o.name) o.op)
some_words o f = by o.op f
  where
    by : (op : CodeOp) → OpHasText op × OpIsNamed op o.name → 0 < length (op_words (only_name o.name) op)
    by (Print pieces from removes) f = omega arith
    by (Do to action from removes) f = (op_worded (Do to action from removes) o.name f.0 f.1 (λ p. p)).some
    by (Call to n from passes protects removes) f = omega arith
    by (Go n from passes removes) f = omega arith
    by (Jump target removes) f = omega arith
    by (Branch test target removes other otherwise) f = omega arith
    by (Return value) f = omega arith

joined_more : (w : List ℕ) (ws : List (List ℕ)) → 0 < length ws → join_with_byte 32 (w ∷ ws) ≡ w ++ 32 ∷ join_with_byte 32 ws
joined_more w [] l = absurd (omega (arith, l))
joined_more w (v ∷ ws) l = refl

pub record InstrParts (index place : ℕ) (creates : List ℕ) (o : NamedOp) : Type 0 where
  pub index_fits : IsSmallNumber index
  pub place_fits : IsSmallNumber place
  pub creates_fit : AreRegions creates
  pub op_fits : NamedOpFits o

-- the four parts of the line
instr_words : (index place : ℕ) (creates : List ℕ) → NamedOp → List (List ℕ)
instr_words index place creates o = decimal index ∷ place_word place ∷ creates_word creates ∷ op_text o ∷ []

instr_line : (index place : ℕ) (creates : List ℕ) (o : NamedOp) → NamedOpFits o
    → item_line (instr_with index place creates o) ≡ join_with_byte 32 (instr_words index place creates o)
unfolding instr_words
instr_line index place creates o f =
    ap (λ r. decimal index ++ 32 ∷ (place_word place ++ 32 ∷ r))
    (joined_more (creates_word creates) (op_words (only_name o.name) o.op) (some_words o f))

instr_cut : (index place : ℕ) (creates : List ℕ) (o : NamedOp) → InstrParts index place creates o
    → cut_line 3 (item_line (instr_with index place creates o)) ≡ instr_words index place creates o
unfolding instr_words
instr_cut index place creates o p =
    let a = lacks_from 33 32 (decimal index) (omega arith) (number_from index p.index_fits) in
    let b = lacks_from 33 32 (place_word place) (omega arith) (lettered_from 33 64 place (omega arith) (omega arith) p.place_fits) in
    let c = lacks_from 33 32 (creates_word creates) (omega arith) (regions_from 43 creates (omega arith) p.creates_fit) in
    ap (cut_line 3) (instr_line index place creates o p.op_fits)
    ∙ cut_more 2 (decimal index) (place_word place ++ 32 ∷ (creates_word creates ++ 32 ∷ op_text o)) a
    ∙ ap (λ ws. decimal index ∷ ws) (cut_more 1 (place_word place) (creates_word creates ++ 32 ∷ op_text o) b)
    ∙ ap (λ ws. decimal index ∷ place_word place ∷ ws) (cut_more 0 (creates_word creates) (op_text o) c)

-- ---- what is read

module _ (line : List ℕ) where
  -- a line that has not these parts
  pub no_instr : ((index place : ℕ) (creates : List ℕ) (o : NamedOp) → InstrParts index place creates o
      → cut_line 3 line ≡ decimal index ∷ place_word place ∷ creates_word creates ∷ op_text o ∷ [] → ⊥)
      → IsReadFromBytes IsFittingInstr item_line line None
  unfolding instr_words
  no_instr none = by
    where
      by : (x : Item) → IsFittingInstr x → line ≢ item_line x
      by (Instr i instr name) f e =
          let o : NamedOp = record { op = instr.op; name = name } in
          let p : InstrParts i instr.place instr.creates o = record {
            index_fits = f.1.0;
            place_fits = f.1.1.0;
            creates_fit = f.1.1.1;
            op_fits = (f.1.1.2, f.1.2);
          } in
          none i instr.place instr.creates o p (ap (cut_line 3) e ∙ instr_cut i instr.place instr.creates o p)
      by Head f e = absurd f.0
      by (Struct name fields) f e = absurd f.0
      by (Global name ty) f e = absurd f.0
      by (Function name params slot) f e = absurd f.0
      by (Slot slot) f e = absurd f.0
      by (Entry names) f e = absurd f.0
      by End f e = absurd f.0

  pub wrong_count : length (cut_line 3 line) ≢ 4 → IsReadFromBytes IsFittingInstr item_line line None
  wrong_count l = no_instr (λ index place creates o p e. l (ap length e))

  pub wrong_index : read_number (nth_word (cut_line 3 line) 0) ≡ None → IsReadFromBytes IsFittingInstr item_line line None
  wrong_index n = no_instr (λ index place creates o p e.
      not_none index (sym n ∙ ap (λ ws. read_number (nth_word ws 0)) e ∙ number_back index p.index_fits))

  pub wrong_place : read_lettered 64 (nth_word (cut_line 3 line) 1) ≡ None → IsReadFromBytes IsFittingInstr item_line line None
  wrong_place n = no_instr (λ index place creates o p e.
      not_none place (sym n ∙ ap (λ ws. read_lettered 64 (nth_word ws 1)) e ∙ lettered_back 64 place p.place_fits))

  pub wrong_creates : read_regions 43 (nth_word (cut_line 3 line) 2) ≡ None → IsReadFromBytes IsFittingInstr item_line line None
  wrong_creates n = no_instr (λ index place creates o p e.
      not_none creates (sym n ∙ ap (λ ws. read_regions 43 (nth_word ws 2)) e ∙ regions_back 43 creates p.creates_fit))

  pub wrong_op : IsReadFromBytes NamedOpFits op_text (nth_word (cut_line 3 line) 3) None → IsReadFromBytes IsFittingInstr item_line line None
  wrong_op n = no_instr (λ index place creates o p e. n o p.op_fits (ap (λ ws. nth_word ws 3) e))

  pub instr_is : (index place : ℕ) (creates : List ℕ) (o : NamedOp) → length (cut_line 3 line) ≡ 4
      → read_number (nth_word (cut_line 3 line) 0) ≡ Some index → read_lettered 64 (nth_word (cut_line 3 line) 1) ≡ Some place
      → read_regions 43 (nth_word (cut_line 3 line) 2) ≡ Some creates → IsReadFromBytes NamedOpFits op_text (nth_word (cut_line 3 line) 3) (Some o)
      → IsReadFromBytes IsFittingInstr item_line line (Some (instr_with index place creates o))
  unfolding instr_words
  instr_is index place creates o l a b c d =
      let words = cut_line 3 line in
      let i = number_sound (nth_word words 0) index a in
      let p = lettered_is 64 (nth_word words 1) place b in
      let r = regions_is 43 (nth_word words 2) creates c in (
        sym (cut_joined 3 line)
            ∙ ap (join_with_byte 32) (four_of words l ∙ ap (λ w. w ∷ nth_word words 1 ∷ nth_word words 2 ∷ nth_word words 3 ∷ []) i.0
            ∙ ap (λ w. decimal index ∷ w ∷ nth_word words 2 ∷ nth_word words 3 ∷ []) p.0
            ∙ ap (λ w. decimal index ∷ place_word place ∷ w ∷ nth_word words 3 ∷ []) r.0
            ∙ ap (λ w. decimal index ∷ place_word place ∷ creates_word creates ∷ w ∷ []) d.0)
            ∙ sym (instr_line index place creates o d.1),
        (tt, (i.1, (p.1, r.1, d.1.0), d.1.1)),
      )

-- ---- one instruction has a line

parts_of : (i : ℕ) (instr : CodeInstr) (name : List ℕ) → ItemFits (Instr i instr name)
    → InstrParts i instr.place instr.creates (record { op = instr.op; name = name })
parts_of i instr name f = record {
  index_fits = f.0;
  place_fits = f.1.0;
  creates_fit = f.1.1;
  op_fits = (f.1.2, f.2);
}

pub instrs_one : (i j : ℕ) (a b : CodeInstr) (m n : List ℕ) → ItemFits (Instr i a m) → ItemFits (Instr j b n)
    → item_line (Instr i a m) ≡ item_line (Instr j b n) → Instr i a m ≡ Instr j b n
unfolding instr_words
instrs_one i j a b m n f g e =
    let o : NamedOp = record { op = a.op; name = m } in
    let q : NamedOp = record { op = b.op; name = n } in
    let p = parts_of i a m f in
    let r = parts_of j b n g in
    let words : instr_words i a.place a.creates o ≡ instr_words j b.place b.creates q =
    sym (instr_cut i a.place a.creates o p) ∙ ap (cut_line 3) e ∙ instr_cut j b.place b.creates q r in
    let index : i ≡ j =
    some_same i j (sym (number_back i p.index_fits) ∙ ap (λ ws. read_number (nth_word ws 0)) words ∙ number_back j r.index_fits) in
    let place : a.place ≡ b.place =
    some_same a.place b.place (sym (lettered_back 64 a.place p.place_fits) ∙ ap (λ ws. read_lettered 64 (nth_word ws 1)) words
    ∙ lettered_back 64 b.place r.place_fits) in
    let creates : a.creates ≡ b.creates =
    some_same a.creates b.creates (sym (regions_back 43 a.creates p.creates_fit)
    ∙ ap (λ ws. read_regions 43 (nth_word ws 2)) words ∙ regions_back 43 b.creates r.creates_fit) in
    let op : o ≡ q = op_one o q p.op_fits r.op_fits (ap (λ ws. nth_word ws 3) words) in
    ap (λ k. Instr k a m) index ∙ ap (λ k. Instr j (record { creates = a.creates; op = a.op; place = k }) m) place
    ∙ ap (λ k. Instr j (record { creates = k; op = a.op; place = b.place }) m) creates
    ∙ ap (λ (k : NamedOp). Instr j (record { creates = b.creates; op = k.op; place = b.place }) k.name) op

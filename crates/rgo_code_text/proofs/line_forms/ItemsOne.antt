-- No two items have one line.
use Rattle.std.proofs.Common.{◌≡◌, ℕ, List, sym, ap, ◌∙◌, refl, arith, codes, decimal}
use Rattle.std.specs.List.{before_first}
use Rattle.rgo_code.specs.Code.{CodeInstr}
use Rattle.rgo_code_words.specs.Cuts.{is_space, cut_line}
use Rattle.rgo_code_text.specs.Items.{Item, Head, Struct, Global, Function, Slot, Entry, Instr, End, ItemFits, item_line}
use Rattle.rgo_code_text.specs.Lines.{struct_item, global_item, function_item, slot_item, entry_item}
use Rattle.rgo_code_text.proofs.op_lines.Instrs.{instrs_one}
use Rattle.rgo_code_text.proofs.line_forms.LineWords.{first_word, line_first, number_differs}
use Rattle.rgo_code_text.proofs.line_forms.LinesBack.{struct_back, global_back, function_back, slot_line_back, entry_back}
use Rattle.rgo_code_words.proofs.Options.{some_same, differ}

only_head : (x : Item) → ItemFits x → first_word x ≡ codes "rgo" → x ≡ Head
only_head Head f e = refl
only_head (Struct name fields) f e = absurd (differ (codes "struct") (codes "rgo") refl e)
only_head (Global name ty) f e = absurd (differ (codes "global") (codes "rgo") refl e)
only_head (Function name params slot) f e = absurd (differ (codes "func") (codes "rgo") refl e)
only_head (Slot slot) f e = absurd (differ (codes "var") (codes "rgo") refl e)
only_head (Entry names) f e = absurd (differ (codes "entry") (codes "rgo") refl e)
only_head (Instr i instr name) f e = absurd (number_differs i 114 (codes "go") f.0 (omega arith) e)
only_head End f e = absurd (differ (codes "end") (codes "rgo") refl e)

only_end : (x : Item) → ItemFits x → first_word x ≡ codes "end" → x ≡ End
only_end Head f e = absurd (differ (codes "rgo") (codes "end") refl e)
only_end (Struct name fields) f e = absurd (differ (codes "struct") (codes "end") refl e)
only_end (Global name ty) f e = absurd (differ (codes "global") (codes "end") refl e)
only_end (Function name params slot) f e = absurd (differ (codes "func") (codes "end") refl e)
only_end (Slot slot) f e = absurd (differ (codes "var") (codes "end") refl e)
only_end (Entry names) f e = absurd (differ (codes "entry") (codes "end") refl e)
only_end (Instr i instr name) f e = absurd (number_differs i 101 (codes "nd") f.0 (omega arith) e)
only_end End f e = refl

only_instr : (i : ℕ) (a : CodeInstr) (m : List ℕ) (x : Item) → ItemFits (Instr i a m) → ItemFits x → first_word x ≡ decimal i
    → item_line (Instr i a m) ≡ item_line x → Instr i a m ≡ x
only_instr i a m (Instr j b n) f g e l = instrs_one i j a b m n f g l
only_instr i a m Head f g e l = absurd (number_differs i 114 (codes "go") f.0 (omega arith) (sym e))
only_instr i a m (Struct name fields) f g e l = absurd (number_differs i 115 (codes "truct") f.0 (omega arith) (sym e))
only_instr i a m (Global name ty) f g e l = absurd (number_differs i 103 (codes "lobal") f.0 (omega arith) (sym e))
only_instr i a m (Function name params slot) f g e l = absurd (number_differs i 102 (codes "unc") f.0 (omega arith) (sym e))
only_instr i a m (Slot slot) f g e l = absurd (number_differs i 118 (codes "ar") f.0 (omega arith) (sym e))
only_instr i a m (Entry names) f g e l = absurd (number_differs i 101 (codes "ntry") f.0 (omega arith) (sym e))
only_instr i a m End f g e l = absurd (number_differs i 101 (codes "nd") f.0 (omega arith) (sym e))

pub items_one : (x y : Item) → ItemFits x → ItemFits y → item_line x ≡ item_line y → x ≡ y
items_one x y f g e = by x f e (sym (line_first y g) ∙ ap (before_first is_space) (sym e) ∙ line_first x f)
  where
    by : (x : Item) → ItemFits x → item_line x ≡ item_line y → first_word y ≡ first_word x → x ≡ y
    by Head f e w = sym (only_head y g w)
    by End f e w = sym (only_end y g w)
    by (Instr i a m) f e w = only_instr i a m y f g w e
    by (Struct name fields) f e w =
        some_same (Struct name fields) y (sym (struct_back (Struct name fields) f refl) ∙ ap (λ l. struct_item (cut_line 2 l)) e ∙ struct_back y g w)
    by (Global name ty) f e w =
        some_same (Global name ty) y (sym (global_back (Global name ty) f refl) ∙ ap (λ l. global_item (cut_line 2 l)) e ∙ global_back y g w)
    by (Function name params slot) f e w =
        some_same (Function name params slot) y (sym (function_back (Function name params slot) f refl) ∙ ap (λ l. function_item (cut_line 4 l)) e ∙ function_back y g w)
    by (Slot slot) f e w =
        some_same (Slot slot) y (sym (slot_line_back (Slot slot) f refl) ∙ ap (λ l. slot_item (cut_line 2 l)) e ∙ slot_line_back y g w)
    by (Entry names) f e w =
        some_same (Entry names) y (sym (entry_back (Entry names) f refl) ∙ ap (λ l. entry_item (cut_line 1 l)) e ∙ entry_back y g w)

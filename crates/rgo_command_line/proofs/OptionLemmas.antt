-- The words after `run`, one option at a time: induction on the words, with the values of the options so far. The hard case is the
-- order, since users may choose it: the options that have no value yet are kept as a list of names, which an option leaves.
use Rattle.std.proofs.Common.{◌≡◌, ◌∙◌, refl, sym, ap, ap₂, subst, codes, cond, Bool, true, false}
use Rattle.std.proofs.Common.{◌||◌, ℕ, zero, suc, ◌+◌, ◌<◌, List, [], ◌∷◌, ◌++◌, length, map, append_assoc, arith}
use Rattle.std.proofs.Common.{Option, Some, None, ◌⊎◌, inl, inr, option_map}
use Rattle.std.specs.Prelude.{is_some}
use Rattle.std.specs.List.{IsDistinct, list_any}
use Rattle.std.specs.List.Sorted.{IsPermutation}
use Rattle.std.specs.Option.{option_or}
use Rattle.std.proofs.lemmas.List.{length-append}
use Rattle.std.proofs.lemmas.List.Sorted.{IsPermutation-cons, IsPermutation-middle, IsPermutation-refl}
use Rattle.std.proofs.lemmas.List.Sorted.{IsPermutation-trans, list_any-IsPermutation}
use Rattle.std.proofs.lemmas.Map.Keys.{IsDistinct-IsPermutation, IsDistinct-tail}
use Rattle.clap.specs.Words.{Row, Text}
use Rattle.clap.specs.Walk.{has_row}
use Rattle.rgo_command_line.specs.Laws.{SetsOption, IsEnd, joined_groups}
use Rattle.rgo_command_line.specs.Numbers.{is_numeral}
use Rattle.rgo_command_line.proofs.OrderLemmas.{is_name, names, names_distinct, no_words, not_again, other_words}
use Rattle.rgo_command_line.proofs.OrderLemmas.{same, same_flips, same_is, same_self, split, still_among}
use Rattle.rgo_command_line.proofs.RunLemmas.{after, at_dashed, at_ending, at_flag, at_flag_value, at_joined}
use Rattle.rgo_command_line.proofs.RunLemmas.{at_more, at_no_value, at_numeral}
use Rattle.rgo_command_line.proofs.RunLemmas.{at_other, at_value, between, from, given, waiting}
use Rattle.rgo_command_line.proofs.StatusLemmas.{AreValues, IsValue, Shows, Values, at_end, run_by, shows_given}
use Rattle.rgo_command_line.proofs.StatusLemmas.{shows_row, with_value}
use Rattle.rgo_command_line.proofs.WordLemmas.{Kind, Name, Number, dashed, dashes}
use Rattle.rgo_command_line.proofs.WordLemmas as word
use Rattle.rgo_command_line.proofs.WordLemmas.{kind_of_word, named, number, number_text, other, stats, text_of, valued}

-- the words that set an option to this value, or no words without one
abbrev pub Gives : Name → Option Text → List Text → Type 0
Gives (number n) value words = SetsOption (number_text n) value words
Gives stats None words = words ≡ []
Gives stats (Some value) words = (value ≡ codes "true") × (words ≡ dashed stats ∷ [])

-- the words ask for nothing, end here, or begin with an option and its value
abbrev Next : List Row → List Text → Type 0
Next rows rest = (from (between rows None) rest ≡ None)
    ⊎ ((IsEnd rest × (from (between rows None) rest ≡ from (between rows None) []))
    ⊎ ((name : Name) × (value : Text) × (words more : List Text) × Gives name (Some value) words
    × (rest ≡ words ++ more) × (from (between rows None) rest ≡ after rows name value more)))

next : (rows : List Row) (rest : List Text) → Next rows rest
next rows [] = inr (inl (inl refl, refl))
next rows (x ∷ xs) = by_kind x xs (kind_of_word x)
  where
    by_value : (n : Number) (y : Text) (ys : List Text)
        → (from (waiting rows n) (y ∷ ys) ≡ None) ⊎ (from (waiting rows n) (y ∷ ys) ≡ after rows (number n) y ys)
        → Next rows (dashed (number n) ∷ y ∷ ys)
    by_value n y ys (inl none) = inl (at_dashed rows n (y ∷ ys) ∙ none)
    by_value n y ys (inr e) = inr (inr (
      number n,
      y,
      dashed (number n) ∷ y ∷ [],
      ys,
      inl refl,
      refl,
      at_dashed rows n (y ∷ ys) ∙ e,
    ))

    by_kind : (x : Text) (xs : List Text) → Kind x → Next rows (x ∷ xs)
    by_kind _ [] dashes = inr (inl (inr refl, at_ending rows None))
    by_kind _ (y ∷ ys) dashes = inl (at_more rows None y ys)
    by_kind _ [] (named (number n)) = inl (at_dashed rows n [] ∙ at_no_value rows n)
    by_kind _ (y ∷ ys) (named (number n)) = by_value n y ys (at_value rows n y ys)
    by_kind _ xs (named stats) =
        inr (inr (stats, codes "true", dashed stats ∷ [], xs, (refl, refl), refl, at_flag rows (codes "true") xs))
    by_kind _ xs (valued (number n) value) =
        inr (inr (number n, value, word.joined (number n) value ∷ [], xs, inr refl, refl, at_joined rows n value xs))
    by_kind _ xs (valued stats value) = inl (at_flag_value rows None value xs)
    by_kind _ xs (other x no_dashes unknown) = inl (at_other rows None x xs no_dashes unknown)

is_value : (name : Name) (value : Text) (words : List Text) → Gives name (Some value) words → IsValue name value
is_value (number n) value words give = tt
is_value stats value words give = give.0

are_values : (name : Name) (value : Text) (values : Values)
    → IsValue name value
    → AreValues values
    → AreValues (with_value name value values)
are_values name value values is are q v e = by_value (values q) refl (same name q) refl e
  where
    by_value : (o : Option Text) → values q ≡ o
        → (b : Bool) → same name q ≡ b
        → option_or o (cond b (Some value) None) ≡ Some v
        → IsValue q v
    by_value (Some u) d b f g = are q v (d ∙ g)
    by_value None d true f g =
        let is_v : value ≡ v = cc in
        subst (λ n. IsValue n v) (same_is name q f) (subst (IsValue name) is_v is)
    by_value None d false f g = cc

-- ---- the words that ask for a run are options

-- options with these names, where those before have these values
record Following (rows : List Row) (values : Values) (remaining : List Name) (rest : List Text) : Type 0 where
  order : List Name
  permuted : IsPermutation remaining order
  more : Values
  words : Name → List Text
  gives : (name : Name) → Gives name (more name) (words name)
  ending : List Text
  ends : IsEnd ending
  whole : rest ≡ joined_groups (map words order) ++ ending
  asks : from (between rows None) rest ≡ run_by (λ name. option_or (values name) (more name))

run_by_same : (u v : Values) → ((name : Name) → u name ≡ v name) → run_by u ≡ run_by v
run_by_same u v h = ap run_by (λ i name. h name i)

or_none : (o : Option Text) → option_or o None ≡ o
or_none None = refl
or_none (Some v) = refl

follow_end : (rows : List Row) (values : Values) (remaining : List Name) (rest : List Text)
    → Shows rows values
    → AreValues values
    → IsEnd rest
    → from (between rows None) rest ≡ from (between rows None) []
    → Following rows values remaining rest
follow_end rows values remaining rest shows are ends e = record {
  order = remaining;
  permuted = IsPermutation-refl remaining;
  more = λ name. None;
  words = λ name. [];
  gives = none;
  ending = rest;
  ends = ends;
  whole = ap (λ w. w ++ rest) (sym (no_words remaining));
  asks =
      e ∙ at_end rows values shows are
      ∙ run_by_same values (λ name. option_or (values name) None) (λ name. sym (or_none (values name)));
}
  where
    none : (name : Name) → Gives name None []
    none (number n) = refl
    none stats = refl

-- one option before the others
follow_one : (rows : List Row) (values : Values) (before after_it : List Name) (rest : List Text)
    → (name : Name) (value : Text) (words more : List Text)
    → IsDistinct same (name ∷ (before ++ after_it))
    → Gives name (Some value) words
    → rest ≡ words ++ more
    → from (between rows None) rest ≡ from (between (given name value rows) None) more
    → Following (given name value rows) (with_value name value values) (before ++ after_it) more
    → Following rows values (before ++ name ∷ after_it) rest
follow_one rows values before after_it rest name value words more distinct give is e b = record {
  order = name ∷ b.order;
  permuted = IsPermutation-trans (before ++ name ∷ after_it) (name ∷ less) (name ∷ b.order)
      (IsPermutation-middle before name after_it) (IsPermutation-cons name less b.order b.permuted);
  more = all_more;
  words = all_words;
  gives = λ q. gives_at q (same name q) refl;
  ending = b.ending;
  ends = b.ends;
  whole =
      is ∙ ap₂ (λ (u v : List Text). u ++ v) (sym own) b.whole
      ∙ ap (λ w. all_words name ++ (joined_groups w ++ b.ending)) (sym others)
      ∙ sym (append_assoc (all_words name) (joined_groups (map all_words b.order)) b.ending);
  asks =
      e ∙ b.asks
      ∙ run_by_same (λ q. option_or (with_value name value values q) (b.more q))
      (λ q. option_or (values q) (all_more q)) (λ q. same_values (values q) (same name q) (b.more q));
}
  where
    less : List Name
    less = before ++ after_it

    all_more : Values
    all_more q = cond (same name q) (Some value) (b.more q)

    all_words : Name → List Text
    all_words q = cond (same name q) words (b.words q)

    own : all_words name ≡ words
    own = ap (λ (c : Bool). cond c words (b.words name)) (same_self name)

    not_in_order : list_any (same name) b.order ≡ false
    not_in_order =
        not_again name b.order
        (IsDistinct-IsPermutation same same_flips (name ∷ less) (name ∷ b.order)
        (IsPermutation-cons name less b.order b.permuted) distinct)

    others : map all_words b.order ≡ map b.words b.order
    others = other_words name words b.words b.order not_in_order

    gives_at : (q : Name) (c : Bool) → same name q ≡ c
        → Gives q (cond c (Some value) (b.more q)) (cond c words (b.words q))
    gives_at q true d = subst (λ n. Gives n (Some value) words) (same_is name q d) give
    gives_at q false d = b.gives q

    same_values : (o : Option Text) (c : Bool) (m : Option Text)
        → option_or (option_or o (cond c (Some value) None)) m ≡ option_or o (cond c (Some value) m)
    same_values (Some v) c m = refl
    same_values None true m = refl
    same_values None false m = refl

-- the options that have no value yet are among these
abbrev AreLeft : Values → List Name → Type 0
AreLeft values remaining = (name : Name) → values name ≡ None → list_any (same name) remaining ≡ true

abbrev MetAfter : List Row → Values → List Name → List Text → Type 0
MetAfter rows values remaining rest =
    (from (between rows None) rest ≡ None) ⊎ Following rows values remaining rest

met_after : (fuel : ℕ) (rows : List Row) (values : Values) (remaining : List Name) (rest : List Text)
    → length remaining < fuel
    → IsDistinct same remaining
    → Shows rows values
    → AreValues values
    → AreLeft values remaining
    → MetAfter rows values remaining rest
met_after zero rows values remaining rest short distinct shows are left = absurd (none short)
  where
    none : length remaining < 0 → ⊥
    none h = omega (arith, h)
met_after (suc fuel) rows values remaining rest short distinct shows are left =
    by_next (met_after fuel) (next rows rest)
  where
    Again : Type 0
    Again = (rows : List Row) (values : Values) (remaining : List Name) (rest : List Text)
        → length remaining < fuel
        → IsDistinct same remaining
        → Shows rows values
        → AreValues values
        → AreLeft values remaining
        → MetAfter rows values remaining rest

    new : Again → (name : Name) (value : Text) (words more : List Text)
        → Gives name (Some value) words
        → rest ≡ words ++ more
        → from (between rows None) rest ≡ after rows name value more
        → values name ≡ None
        → (before after_it : List Name)
        → remaining ≡ before ++ name ∷ after_it
        → MetAfter rows values remaining rest
    new again name value words more give is e none before after_it at =
        subst (λ r. MetAfter rows values r rest) (sym at)
        (by_more (again (given name value rows) (with_value name value values) less more shorter
        (IsDistinct-tail same name less apart)
        (shows_given name value rows values no_row (is_value name value words give) shows)
        (are_values name value values (is_value name value words give) are) still_left))
      where
        less : List Name
        less = before ++ after_it

        no_row : has_row (text_of name) rows ≡ false
        no_row = shows_row name rows values shows ∙ ap is_some none

        apart : IsDistinct same (name ∷ less)
        apart =
            IsDistinct-IsPermutation same same_flips (before ++ name ∷ after_it) (name ∷ less)
            (IsPermutation-middle before name after_it) (subst (IsDistinct same) at distinct)

        shorter : length less < fuel
        shorter =
            let whole : length remaining ≡ length before + (1 + length after_it) =
            ap length at ∙ length-append before (name ∷ after_it) ∙ sums in
            let parts : length less ≡ length before + length after_it = length-append before after_it in
            omega (arith, short, whole, parts)
          where
            sums : length before + length (name ∷ after_it) ≡ length before + (1 + length after_it)
            sums = omega arith

        still_left : AreLeft (with_value name value values) less
        still_left q none_then = by_both (values q) refl (same name q) refl none_then
          where
            by_both : (o : Option Text) → values q ≡ o
                → (b : Bool) → same name q ≡ b
                → option_or o (cond b (Some value) None) ≡ None
                → list_any (same q) less ≡ true
            by_both (Some v) d b f g = cc
            by_both None d true f g = cc
            by_both None d false f g =
                still_among name q before after_it f (subst (λ r. list_any (same q) r ≡ true) at (left q d))

        first : from (between rows None) rest ≡ from (between (given name value rows) None) more
        first = e ∙ ap (λ (b : Bool). cond b None (from (between (given name value rows) None) more)) no_row

        by_more : MetAfter (given name value rows) (with_value name value values) less more
            → MetAfter rows values (before ++ name ∷ after_it) rest
        by_more (inl nothing) = inl (first ∙ nothing)
        by_more (inr b) = inr (follow_one rows values before after_it rest name value words more apart give is first b)

    by_row : Again → (name : Name) (value : Text) (words more : List Text)
        → Gives name (Some value) words
        → rest ≡ words ++ more
        → from (between rows None) rest ≡ after rows name value more
        → (o : Option Text)
        → values name ≡ o
        → MetAfter rows values remaining rest
    by_row again name value words more give is e (Some v) d =
        inl (e ∙ ap (λ (b : Bool). cond b None (from (between (given name value rows) None) more))
        (shows_row name rows values shows ∙ ap is_some d))
    by_row again name value words more give is e None d =
        let at = split name remaining (left name d) in
        new again name value words more give is e d at.0 at.1 at.2

    by_next : Again → Next rows rest → MetAfter rows values remaining rest
    by_next again (inl nothing) = inl nothing
    by_next again (inr (inl end)) = inr (follow_end rows values remaining rest shows are end.0 end.1)
    by_next again (inr (inr (name, value, words, more, give, is, e))) =
        by_row again name value words more give is e (values name) refl

-- the words are options, each at most once, in the order of these names, with nothing or a `--` after them
pub record AreOptions (values : Values) (rest : List Text) : Type 0 where
  pub order : List Name
  pub permuted : IsPermutation names order
  pub words : Name → List Text
  pub gives : (name : Name) → Gives name (values name) (words name)
  pub ending : List Text
  pub ends : IsEnd ending
  pub whole : rest ≡ joined_groups (map words order) ++ ending

-- words after `run` that ask for something are options, and ask for what these set
abbrev pub MetOptions : List Text → Type 0
MetOptions rest = (from (between [] None) rest ≡ None)
    ⊎ ((values : Values) × AreOptions values rest × (from (between [] None) rest ≡ run_by values))

pub met_options : (rest : List Text) → MetOptions rest
met_options rest =
    by_following
    (met_after 8 [] (λ name. None) names rest (omega arith) names_distinct (λ name. refl) no_value all_left)
  where
    no_value : AreValues (λ name. None)
    no_value name value e = cc

    all_left : AreLeft (λ name. None) names
    all_left name e = is_name name

    by_following : MetAfter [] (λ name. None) names rest → MetOptions rest
    by_following (inl nothing) = inl nothing
    by_following (inr b) = inr (
      b.more,
      record {
        order = b.order;
        permuted = b.permuted;
        words = b.words;
        gives = b.gives;
        ending = b.ending;
        ends = b.ends;
        whole = b.whole;
      },
      b.asks,
    )

-- ---- words that are options ask for what these set

-- the value of an option with a number is a numeral
abbrev pub IsNumeral : Name → Option Text → Type 0
IsNumeral (number n) (Some text) = is_numeral text ≡ true
IsNumeral _ _ = Unit {0}

ends_here : (rows : List Row) (rest : List Text)
    → IsEnd rest
    → from (between rows None) rest ≡ from (between rows None) []
ends_here rows rest (inl e) = ap (from (between rows None)) e
ends_here rows rest (inr e) = ap (from (between rows None)) e ∙ at_ending rows None

-- the words that set an option lead to what follows them
gives_value : (rows : List Row) (name : Name) (value : Text) (words rest : List Text)
    → Gives name (Some value) words
    → IsNumeral name (Some value)
    → from (between rows None) (words ++ rest) ≡ after rows name value rest
gives_value rows (number n) value words rest (inl e) numeral =
    ap (λ w. from (between rows None) (w ++ rest)) e ∙ at_dashed rows n (value ∷ rest)
    ∙ at_numeral rows n value rest numeral
gives_value rows (number n) value words rest (inr e) numeral =
    ap (λ w. from (between rows None) (w ++ rest)) e ∙ at_joined rows n value rest
gives_value rows stats value words rest give numeral =
    ap (λ w. from (between rows None) (w ++ rest)) give.1 ∙ at_flag rows value rest

gives_none : (name : Name) (words : List Text) → Gives name None words → words ≡ []
gives_none (number n) words e = e
gives_none stats words e = e

module _ (values : Values) (words : Name → List Text) (ending : List Text)
    (gives : (name : Name) → Gives name (values name) (words name))
    (numerals : (name : Name) → IsNumeral name (values name)) (ends : IsEnd ending) where
  -- the values of the options that are not among these
  abbrev values_but : List Name → Values
  values_but order name = cond (list_any (same name) order) None (values name)

  value_at : (name : Name) (value : Text) → values name ≡ Some value → Gives name (Some value) (words name)
  value_at name value e = subst (λ o. Gives name o (words name)) e (gives name)

  are : AreValues values
  are name value e = is_value name value (words name) (value_at name value e)

  abbrev AskIn : List Name → Type 0
  AskIn order = (rows : List Row)
      → Shows rows (values_but order)
      → from (between rows None) (joined_groups (map words order) ++ ending) ≡ run_by values

  -- an option that has no value
  ask_none : (name : Name) (order : List Name) → values name ≡ None → AskIn order → AskIn (name ∷ order)
  ask_none name order none again rows shows =
      ap (λ w. from (between rows None) ((w ++ joined_groups (map words order)) ++ ending))
      (gives_none name (words name) (subst (λ o. Gives name o (words name)) none (gives name)))
      ∙ again rows (λ q. shows q ∙ ap (option_map Some) (by_same q (same q name) refl))
    where
      by_order : (b : Bool) (o : Option Text) → o ≡ None → None ≡ cond b None o
      by_order true o e = refl
      by_order false o e = sym e

      by_same : (q : Name) (b : Bool) → same q name ≡ b
          → cond (b || list_any (same q) order) None (values q) ≡ values_but order q
      by_same q true d =
          by_order (list_any (same q) order) (values q) (ap values (same_is q name d) ∙ none)
      by_same q false d = refl

  -- an option with its value
  ask_value : (name : Name) (value : Text) (order : List Name)
      → values name ≡ Some value
      → list_any (same name) order ≡ false
      → AskIn order
      → AskIn (name ∷ order)
  ask_value name value order is not_in again rows shows =
      ap (from (between rows None)) (append_assoc (words name) (joined_groups (map words order)) ending)
      ∙ gives_value rows name value (words name) others give
      (subst (IsNumeral name) is (numerals name))
      ∙ ap (λ (b : Bool). cond b None (from (between (given name value rows) None) others)) no_row
      ∙ again (given name value rows)
      (λ q. shows_given name value rows (values_but (name ∷ order)) no_row allowed shows q
      ∙ ap (option_map Some) (by_same q (same q name) refl))
    where
      give : Gives name (Some value) (words name)
      give = value_at name value is

      allowed : IsValue name value
      allowed = is_value name value (words name) give

      others : List Text
      others = joined_groups (map words order) ++ ending

      no_row : has_row (text_of name) rows ≡ false
      no_row =
          shows_row name rows (values_but (name ∷ order)) shows
          ∙ ap (λ (b : Bool). is_some (cond (b || list_any (same name) order) None (values name))) (same_self name)

      by_order : (b : Bool) (o : Option Text) → option_or (cond b None o) None ≡ cond b None o
      by_order true o = refl
      by_order false o = or_none o

      by_same : (q : Name) (b : Bool) → same q name ≡ b
          → option_or (cond (b || list_any (same q) order) None (values q)) (cond (same name q) (Some value) None)
          ≡ values_but order q
      by_same q true d =
          let is_name : q ≡ name = same_is q name d in
          ap (λ (c : Bool). cond c (Some value) None) (sym (same_flips q name) ∙ d)
          ∙ sym (ap (values_but order) is_name ∙ ap (λ (c : Bool). cond c None (values name)) not_in ∙ is)
      by_same q false d =
          ap (λ (c : Bool). option_or (values_but order q) (cond c (Some value) None)) (sym (same_flips q name) ∙ d)
          ∙ by_order (list_any (same q) order) (values q)

  ask_in : (order : List Name) → IsDistinct same order → AskIn order
  ask_in [] distinct = λ rows shows. ends_here rows ending ends ∙ at_end rows values shows are
  ask_in (name ∷ order) distinct =
      by_value (values name) refl (ask_in order (IsDistinct-tail same name order distinct))
    where
      by_value : (o : Option Text) → values name ≡ o → AskIn order → AskIn (name ∷ order)
      by_value None e again = ask_none name order e again
      by_value (Some value) e again = ask_value name value order e (not_again name order distinct) again

  pub asks : (order : List Name)
      → IsPermutation names order
      → from (between [] None) (joined_groups (map words order) ++ ending) ≡ run_by values
  asks order permuted =
      ask_in order (IsDistinct-IsPermutation same same_flips names order permuted names_distinct) []
      (λ q. ap (λ (b : Bool). option_map Some (cond b None (values q))) (sym (in_order q)))
    where
      in_order : (q : Name) → list_any (same q) order ≡ true
      in_order q = sym (list_any-IsPermutation (same q) names order permuted) ∙ is_name q

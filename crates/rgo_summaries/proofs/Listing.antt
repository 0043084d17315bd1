-- Where functions are called.
use Rattle.std.proofs.Common.{◌≡◌, ◌≢◌, ◌⊎◌, inl, inr, ⊎_elim, ℕ, ◌<◌, ◌≤◌, List, [], ◌∷◌, ◌++◌, Vec, length, set, get_or, map, refl, sym, ap, ◌∙◌, subst, arith, length-append}
use Rattle.std.specs.Global.{Global}
use Rattle.std.specs.List.{Contains}
use Rattle.std.proofs.lemmas.Bool.{cases_lt}
use Rattle.std.proofs.lemmas.List.{get_or-set_same, get_or-set_other, get_or-map, get_or_past, get_or_append_left, get_or_push, length-set, length-map, map-set, map-append}
use Rattle.std.proofs.lemmas.List.Elements.{Contains-append_left, Contains-push, Contains-push_cases}
use Rattle.rgo_classes.proofs.Moving.{eq_cases, no_member}
use Rattle.rgo_summaries.specs.declared.progress.Site.{Site}
use Rattle.rgo_summaries.specs.Beginning.{Lists}
use Rattle.rgo_summaries.specs.Views.{call_sites_of}

abbrev pub Rows : Type 0
Rows = List (Vec Site Global)

abbrev lists : Rows → List (List Site)
lists rows = map (λ (r : Vec Site Global). r.items) rows

rows_len : (rows : Rows) → length (lists rows) ≡ length rows
rows_len rows = length-map rows (λ (r : Vec Site Global). r.items)

module _ (rows : Rows) (g : ℕ) (row row' : Vec Site Global) (s : Site) (l : g < length rows)
    (is : row ≡ get_or rows g row)
    (pushed : row'.items ≡ row.items ++ s ∷ []) where
  abbrev after : Rows
  after = set rows g row'

  row_was : call_sites_of rows g ≡ row.items
  row_was = get_or-map (λ (r : Vec Site Global). r.items) rows g row [] l
      ∙ ap (λ (r : Vec Site Global). r.items) (sym is)

  row_is : call_sites_of after g ≡ call_sites_of rows g ++ s ∷ []
  row_is =
      ap (λ (r : List (List Site)). get_or r g []) (map-set (λ (r : Vec Site Global). r.items) rows g row')
      ∙ get_or-set_same (lists rows) g row'.items [] (omega (arith, l, rows_len rows))
      ∙ pushed ∙ ap (λ (k : List Site). k ++ s ∷ []) (sym row_was)

  row_other : (h : ℕ) → h ≢ g → call_sites_of after h ≡ call_sites_of rows h
  row_other h n =
      ap (λ (r : List (List Site)). get_or r h []) (map-set (λ (r : Vec Site Global). r.items) rows g row')
      ∙ get_or-set_other (lists rows) g h row'.items [] n

  abbrev Kept : ℕ → Type 0
  Kept h = (t : Site) → Contains (call_sites_of rows h) t → Contains (call_sites_of after h) t

  kept_here : Kept g
  kept_here t c = subst (λ (k : List Site). Contains k t) (sym row_is)
      (Contains-append_left (call_sites_of rows g) (s ∷ []) t c)

  kept_other : (h : ℕ) → h ≢ g → Kept h
  kept_other h n t c = subst (λ (k : List Site). Contains k t) (sym (row_other h n)) c

  abbrev Only : ℕ → Type 0
  Only h = (t : Site) → Contains (call_sites_of after h) t → Contains (call_sites_of rows h) t ⊎ ((h ≡ g) × (t ≡ s))

  only_here : Only g
  only_here t c = ⊎_elim
      (λ d. inl d)
      (λ e. inr (refl, sym e))
      (Contains-push_cases (call_sites_of rows g) s t (subst (λ (k : List Site). Contains k t) row_is c))

  only_other : (h : ℕ) → h ≢ g → Only h
  only_other h n t c = inl (subst (λ (k : List Site). Contains k t) (row_other h n) c)

  pub lists_one : Lists rows after g s
  lists_one = record {
    len = length-set rows g row';
    here = subst (λ (k : List Site). Contains k s) (sym row_is) (Contains-push (call_sites_of rows g) s);
    kept = λ h. ⊎_elim (λ e. subst Kept (sym e) kept_here) (λ n. kept_other h n) (eq_cases h g);
    only = λ h. ⊎_elim (λ e. subst Only (sym e) only_here) (λ n. only_other h n) (eq_cases h g);
  }

-- ---- no calls

abbrev pub AreNone : Rows → Type 0
AreNone rows = (g : ℕ) (s : Site) → Contains (call_sites_of rows g) s → ⊥

pub none_first : AreNone []
none_first g s c = no_member s (subst (λ (k : List Site). Contains k s)
    (get_or_past {X = List Site} [] g [] (omega arith)) c)

pub none_more : (rows : Rows) (row : Vec Site Global) → row.items ≡ [] → AreNone rows → AreNone (rows ++ row ∷ [])
none_more rows row e none g s c = ⊎_elim
    (λ l. none g s (subst (λ (k : List Site). Contains k s) (before l) c))
    (λ l. no_member s (subst (λ (k : List Site). Contains k s) (past l) c))
    (cases_lt g (length rows))
  where
    mapped : lists (rows ++ row ∷ []) ≡ lists rows ++ row.items ∷ []
    mapped = map-append (λ (r : Vec Site Global). r.items) rows (row ∷ [])

    before : g < length rows → call_sites_of (rows ++ row ∷ []) g ≡ call_sites_of rows g
    before l =
        ap (λ (r : List (List Site)). get_or r g []) mapped
        ∙ get_or_append_left (lists rows) (row.items ∷ []) [] g (omega (arith, l, rows_len rows))

    past : length rows ≤ g → call_sites_of (rows ++ row ∷ []) g ≡ []
    past l = ap (λ (r : List (List Site)). get_or r g []) mapped ∙ ⊎_elim
        (λ more. get_or_past (lists rows ++ row.items ∷ []) g []
        (omega (arith, more, rows_len rows, length-append (lists rows) (row.items ∷ []))))
        (λ less. get_or_push (lists rows) row.items [] g (omega (arith, l, less, rows_len rows)) ∙ e)
        (cases_lt (length rows) g)

-- Names of one kind, by number: what is found of each, after one more.
use Rattle.std.proofs.Common.{◌≡◌, ℕ, ◌<◌, ◌+◌, Bool, true, false, not, ◌||◌, nat_lt, if◌then◌else◌, List, [], ◌∷◌, ◌++◌, length, Option, Some, None, suc, refl, sym, ap, ◌∙◌, true≢false, arith, take, drop, get_or, length-drop, ◌≤◌, ◌-◌, append-nil, append_assoc}
use Rattle.std.specs.Bool.{Decides}
use Rattle.std.proofs.lemmas.Bool.Decides.{Decides-ltb}
use Rattle.std.specs.List.{flat_map}
use Rattle.std.specs.Option.{option_map, option_or, is_some, option_copied}
use Rattle.std.specs.Str.{bytes_eq}
use Rattle.std.proofs.lemmas.List.{map_push, take_more, get_or-drop, get_or-map}
use Rattle.std.proofs.lemmas.Slice.Eq.{bytes_eq-Decides}
use Rattle.std.proofs.lemmas.Map.Text.{hash_map_updates_str}
use denote.Ref.{Bor}
use Rattle.indexmap.specs.IndexMap.{IndexMap, get_by, UpdatesBy}
use Rattle.rgo_code_text.specs.Building.{with_all_names, with_struct_names, with_declared, with_used, all_declared, all_used, names_in, declared_in}
use Rattle.rgo_code_text.specs.Building.{declared_struct, declared_variable, declared_function, used_structs, used_variables, used_functions}
use Rattle.rgo_code_words.specs.Cuts.{nows}
use Rattle.rgo_code_text.specs.Items.{Item}
use Rattle.rgo_code_text.specs.Numbers.{number_if_known, with_name}
use Rattle.rgo_code_printing.specs.Text.{Names}
use Rattle.rgo_code_text.specs.Written.{empty_names, number_of_name}
use Rattle.rgo_code_words.specs.Worded.{is_among}

below_next : (m n : ℕ) → nat_lt (1 + m) (suc n) ≡ nat_lt m n
below_next m n = by (nat_lt (1 + m) (suc n)) (nat_lt m n) (Decides-ltb (1 + m) (suc n)) (Decides-ltb m n)
  where
    by : (a b : Bool) → Decides a (1 + m < suc n) → Decides b (m < n) → a ≡ b
    by true true d e = refl
    by false false d e = refl
    by true false d e = sym (e.1 (omega (arith, d.0 refl)))
    by false true d e = d.1 (omega (arith, e.0 refl))

-- what is found in a list, by whether the name is the first one
abbrev pub past : Bool → Option ℕ → Option ℕ
past true o = Some 0
past false o = option_map (λ n. 1 + n) o

pub first_cons : (z : List ℕ) (names : List (List ℕ)) (x : List ℕ)
    → number_if_known (z ∷ names) x ≡ past (bytes_eq z x) (number_if_known names x)
first_cons z names x = by (bytes_eq z x)
  where
    under : (t : Bool) → (if t then Some (1 + number_of_name names x) else None)
        ≡ option_map (λ n. 1 + n) (if t then Some (number_of_name names x) else None)
    under true = refl
    under false = refl

    by : (b : Bool)
        → (if nat_lt (if not b then 1 + number_of_name names x else 0) (suc (length names))
        then Some (if not b then 1 + number_of_name names x else 0) else None) ≡ past b (number_if_known names x)
    by true = ap (λ t. if t then Some 0 else None) ((Decides-ltb 0 (suc (length names))).1 (omega arith))
    by false =
        ap (λ t. if t then Some (1 + number_of_name names x) else None) (below_next (number_of_name names x) (length names))
        ∙ under (nat_lt (number_of_name names x) (length names))

abbrev pub newest : Bool → ℕ → Option ℕ
newest true n = Some n
newest false n = None

-- one more name
pub first_push : (names : List (List ℕ)) (y x : List ℕ)
    → number_if_known (names ++ y ∷ []) x ≡ option_or (number_if_known names x) (newest (bytes_eq y x) (length names))
first_push [] y x = first_cons y [] x ∙ by (bytes_eq y x)
  where
    by : (b : Bool) → past b None ≡ newest b 0
    by true = refl
    by false = refl
first_push (z ∷ names) y x =
    first_cons z (names ++ y ∷ []) x ∙ ap (past (bytes_eq z x)) (first_push names y x)
    ∙ by (bytes_eq z x) (number_if_known names x) (bytes_eq y x)
    ∙ ap (λ o. option_or o (newest (bytes_eq y x) (suc (length names)))) (sym (first_cons z names x))
  where
    by : (b : Bool) (o : Option ℕ) (c : Bool)
        → past b (option_or o (newest c (length names))) ≡ option_or (past b o) (newest c (suc (length names)))
    by true o c = refl
    by false (Some n) c = refl
    by false None true = ap Some (omega arith)
    by false None false = refl

pub among_first : (names : List (List ℕ)) (x : List ℕ) → is_among names x ≡ is_some (number_if_known names x)
among_first [] x = refl
among_first (z ∷ names) x =
    ap (λ t. bytes_eq z x || t) (among_first names x) ∙ by (bytes_eq z x) (number_if_known names x)
    ∙ ap is_some (sym (first_cons z names x))
  where
    by : (b : Bool) (o : Option ℕ) → (b || is_some o) ≡ is_some (past b o)
    by true o = refl
    by false (Some n) = refl
    by false None = refl

-- a name that was there already
pub first_kept : (names : List (List ℕ)) (y x : List ℕ) → is_some (number_if_known names y) ≡ true
    → number_if_known (names ++ y ∷ []) x ≡ number_if_known names x
first_kept names y x s = first_push names y x ∙ by (bytes_eq y x) (bytes_eq-Decides y x).0 (number_if_known names x) refl
  where
    by : (b : Bool) → (b ≡ true → y ≡ x) → (o : Option ℕ) → number_if_known names x ≡ o → option_or o (newest b (length names)) ≡ o
    by b d (Some n) e = refl
    by false d None e = refl
    by true d None e = absurd (true≢false (sym s ∙ ap (λ z. is_some (number_if_known names z)) (d refl) ∙ ap is_some e))

-- a name that was not
pub first_added : (names : List (List ℕ)) (y x : List ℕ) → is_some (number_if_known names y) ≡ false
    → number_if_known (names ++ y ∷ []) x ≡ (if bytes_eq y x then Some (length names) else number_if_known names x)
first_added names y x s = first_push names y x ∙ by (bytes_eq y x) (bytes_eq-Decides y x).0 (number_if_known names x) refl
  where
    by : (b : Bool) → (b ≡ true → y ≡ x) → (o : Option ℕ) → number_if_known names x ≡ o
        → option_or o (newest b (length names)) ≡ (if b then Some (length names) else o)
    by true d (Some n) e =
        absurd (true≢false (sym (sym s ∙ ap (λ z. is_some (number_if_known names z)) (d refl) ∙ ap is_some e)))
    by true d None e = refl
    by false d (Some n) e = refl
    by false d None e = refl

-- the number of a name, by what is found
pub number_some : (names : List (List ℕ)) (x : List ℕ) (n : ℕ) → number_if_known names x ≡ Some n → number_of_name names x ≡ n
number_some names x n e = by (nat_lt (number_of_name names x) (length names)) e
  where
    by : (t : Bool) → (if t then Some (number_of_name names x) else None) ≡ Some n → number_of_name names x ≡ n
    by true q = cc
    by false q = cc

pub number_none : (names : List (List ℕ)) (x : List ℕ) → number_if_known names x ≡ None → number_of_name names x ≡ length names
number_none [] x e = refl
number_none (z ∷ names) x e =
    by (bytes_eq z x) (number_if_known names x) refl (sym (first_cons z names x) ∙ e) (λ q. number_none names x q)
  where
    by : (b : Bool) (o : Option ℕ) → number_if_known names x ≡ o → past b o ≡ None
        → (number_if_known names x ≡ None → number_of_name names x ≡ length names)
        → (if not b then 1 + number_of_name names x else 0) ≡ suc (length names)
    by true o q r rest = cc
    by false (Some n) q r rest = cc
    by false None q r rest = omega (arith, rest q)

-- names by names
pub with_append : (names xs ys : List (List ℕ)) → with_all_names names (xs ++ ys) ≡ with_all_names (with_all_names names xs) ys
with_append names [] ys = refl
with_append names (x ∷ xs) ys = with_append (with_name names x) xs ys

-- the map of the numbers of names
module _ {S : Type 0} where
  abbrev pub FindsFirst : List (List ℕ) → IndexMap (Bor (List ℕ)) ℕ S → Type 0
  FindsFirst names m = (name : List ℕ) → get_by (λ known. bytes_eq name known.now) m ≡ number_if_known names name

  pub finds_kept : (names : List (List ℕ)) (y : List ℕ) (m : IndexMap (Bor (List ℕ)) ℕ S) → FindsFirst names m
      → is_some (get_by (λ known. bytes_eq y known.now) m) ≡ true → FindsFirst (names ++ y ∷ []) m
  finds_kept names y m f s = λ name. f name ∙ sym (first_kept names y name (ap is_some (sym (f y)) ∙ s))

  pub finds_added : (names : List (List ℕ)) (y : List ℕ) (m n : IndexMap (Bor (List ℕ)) ℕ S) → FindsFirst names m
      → is_some (get_by (λ known. bytes_eq y known.now) m) ≡ false
      → UpdatesBy (λ a b. bytes_eq a.now b.now) (λ k. bytes_eq y k.now) m n (Some (length names))
      → FindsFirst (names ++ y ∷ []) n
  finds_added names y m n f s u = λ name.
      hash_map_updates_str y m n (Some (length names)) u name
      ∙ ap (λ o. if bytes_eq y name then Some (length names) else o) (f name)
      ∙ sym (first_added names y name (ap is_some (sym (f y)) ∙ s))

pub nows_push : (names : List (Bor (List ℕ))) (x : Bor (List ℕ)) → nows (names ++ x ∷ []) ≡ nows names ++ x.now ∷ []
nows_push names x = map_push (λ w. w.now) names x

pub nows_length : (names : List (Bor (List ℕ))) → length (nows names) ≡ length names
nows_length [] = refl
nows_length (x ∷ names) = ap suc (nows_length names)

-- the names from one on, with the next
pub names_more : (names : List (Bor (List ℕ))) (first n : ℕ) (d : Bor (List ℕ)) → first ≤ n → n < length names
    → take (n + 1 - first) (drop first (nows names)) ≡ take (n - first) (drop first (nows names)) ++ (get_or names n d).now ∷ []
names_more names first n d le lt =
    ap (λ k. take k (drop first (nows names))) (omega (arith, le))
    ∙ take_more (drop first (nows names)) (n - first) d.now
    (omega (arith, le, lt, nows_length names, length-drop first (nows names)))
    ∙ ap (λ x. take (n - first) (drop first (nows names)) ++ x ∷ [])
    (get_or-drop first (nows names) (n - first) d.now
    ∙ ap (λ k. get_or (nows names) k d.now) (omega (arith, le))
    ∙ get_or-map (λ (w : Bor (List ℕ)). w.now) names n d d.now lt)

pub copied_some : (o : Option (Bor ℕ)) → is_some (option_copied o) ≡ is_some o
copied_some (Some n) = refl
copied_some None = refl

pub with_new : (names : List (List ℕ)) (x : List ℕ) → is_some (number_if_known names x) ≡ false → with_name names x ≡ names ++ x ∷ []
with_new names x s = ap (λ t. if t then names else names ++ x ∷ []) (among_first names x ∙ s)

pub with_known : (names : List (List ℕ)) (x : List ℕ) → is_some (number_if_known names x) ≡ true → with_name names x ≡ names
with_known names x s = ap (λ t. if t then names else names ++ x ∷ []) (among_first names x ∙ s)

-- ---- the names of lines

pub structs_append : (n : Names) (xs ys : List (List ℕ))
    → with_struct_names n (xs ++ ys) ≡ with_struct_names (with_struct_names n xs) ys
structs_append n xs ys = ap (λ ss. record n { structs = ss }) (with_append n.structs xs ys)

pub names_same : (a b : Names) → a.structs ≡ b.structs → a.variables ≡ b.variables → a.functions ≡ b.functions → a ≡ b
names_same a b s v f =
    ap (λ x. record { structs = x; variables = a.variables; functions = a.functions }) s
    ∙ ap (λ x. record { structs = b.structs; variables = x; functions = a.functions }) v
    ∙ ap (λ x. record { structs = b.structs; variables = b.variables; functions = x }) f

declared_more : (n : Names) (items : List Item)
    → all_declared n items ≡ record {
      structs = n.structs ++ flat_map declared_struct items;
      variables = n.variables ++ flat_map declared_variable items;
      functions = n.functions ++ flat_map declared_function items;
    }
declared_more n [] =
    names_same n (record { structs = n.structs ++ []; variables = n.variables ++ []; functions = n.functions ++ [] })
    (sym (append-nil n.structs)) (sym (append-nil n.variables)) (sym (append-nil n.functions))
declared_more n (i ∷ items) =
    declared_more (with_declared n i) items
    ∙ names_same
    (record {
      structs = (n.structs ++ declared_struct i) ++ flat_map declared_struct items;
      variables = (n.variables ++ declared_variable i) ++ flat_map declared_variable items;
      functions = (n.functions ++ declared_function i) ++ flat_map declared_function items;
    })
    (record {
      structs = n.structs ++ (declared_struct i ++ flat_map declared_struct items);
      variables = n.variables ++ (declared_variable i ++ flat_map declared_variable items);
      functions = n.functions ++ (declared_function i ++ flat_map declared_function items);
    })
    (append_assoc n.structs (declared_struct i) (flat_map declared_struct items))
    (append_assoc n.variables (declared_variable i) (flat_map declared_variable items))
    (append_assoc n.functions (declared_function i) (flat_map declared_function items))

pub all_declared_in : (items : List Item) → all_declared empty_names items ≡ declared_in items
all_declared_in items = declared_more empty_names items

used_more : (n : Names) (items : List Item)
    → all_used n items ≡ record {
      structs = with_all_names n.structs (flat_map used_structs items);
      variables = with_all_names n.variables (flat_map used_variables items);
      functions = with_all_names n.functions (flat_map used_functions items);
    }
used_more n [] = refl
used_more n (i ∷ items) =
    used_more (with_used n i) items
    ∙ names_same
    (record {
      structs = with_all_names (with_all_names n.structs (used_structs i)) (flat_map used_structs items);
      variables = with_all_names (with_all_names n.variables (used_variables i)) (flat_map used_variables items);
      functions = with_all_names (with_all_names n.functions (used_functions i)) (flat_map used_functions items);
    })
    (record {
      structs = with_all_names n.structs (used_structs i ++ flat_map used_structs items);
      variables = with_all_names n.variables (used_variables i ++ flat_map used_variables items);
      functions = with_all_names n.functions (used_functions i ++ flat_map used_functions items);
    })
    (sym (with_append n.structs (used_structs i) (flat_map used_structs items)))
    (sym (with_append n.variables (used_variables i) (flat_map used_variables items)))
    (sym (with_append n.functions (used_functions i) (flat_map used_functions items)))

pub all_names_in : (items : List Item) (n : Names) → n ≡ declared_in items → all_used n items ≡ names_in items
all_names_in items n e = ap (λ m. all_used m items) e ∙ used_more (declared_in items) items

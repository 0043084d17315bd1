-- One turn of a list, at a number of turns that is not 0.
use Rattle.std.proofs.Common.{◌≡◌, ℕ, ◌-◌, ◌<◌, Bool, true, false, cond, List, [], ◌∷◌, ◌++◌, Option, Some, None, refl, ap, ◌∙◌}
use Rattle.std.proofs.lemmas.List.{map-append, append-nil}
use Rattle.rgo_lexer.specs.declared.terminals.Terminal.{Terminal}
use Rattle.rgo_lexer.specs.Lexemes.{Leaf, Lexeme, is_same_terminal}
use Rattle.rgo_grammar.specs.reading.Read.{Read, Done, Failed, Starving, At, ◌>>=◌, single, list_rest, listed, several}
use Rattle.rgo_reader.specs.Lists.{closes, after_item}
use Rattle.rgo_reader.proofs.TypeTurns.{turn}

-- after an item
abbrev pub closed_or : {A : Type 0} → (List A → List Lexeme → Read (List A × Leaf)) → List A → Option Leaf → List Lexeme → Read (List A × Leaf)
closed_or again found None w = again found w
closed_or again found (Some j) w = Done (found, j) w

ended_by : {A : Type 0} (again : List A → List Lexeme → Read (List A × Leaf)) (found : List A) (t : Lexeme) (m l : List Lexeme) (c s : Bool)
    → cond c (Done (found, t.leaf) m) (cond s (again found m) (Failed (At l)))
    ≡ (cond c (Done (Some t.leaf) m) (cond s (Done None m) (Failed (At l))) >>= closed_or again found)
ended_by again found t m l true s = refl
ended_by again found t m l false true = refl
ended_by again found t m l false false = refl

pub ended_is : {A : Type 0} (separator closer : Terminal) (again : List A → List Lexeme → Read (List A × Leaf)) (found : List A) (l : List Lexeme)
    → list_rest separator closer again found l ≡ (after_item separator closer l >>= closed_or again found)
ended_is separator closer again found [] = refl
ended_is separator closer again found (t ∷ m) = ended_by again found t m (t ∷ m) (is_same_terminal closer t.terminal) (is_same_terminal separator t.terminal)

-- before an item: the end of the list, or the item and what comes after it
abbrev pub lists_from : {A : Type 0} → Terminal → Terminal → (List Lexeme → Read (List A)) → (List A → List Lexeme → Read (List A × Leaf)) → List A
    → Option Leaf → List Lexeme → Read (List A × Leaf)
lists_from separator closer item again found None w = item w >>= λ a u. after_item separator closer u >>= closed_or again (found ++ a)
lists_from separator closer item again found (Some j) w = Done (found, j) w

abbrev pub items_from : {A : Type 0} → Terminal → Terminal → (List Lexeme → Read A) → (List A → List Lexeme → Read (List A × Leaf)) → List A
    → Option Leaf → List Lexeme → Read (List A × Leaf)
items_from separator closer item again found None w = item w >>= λ a u. after_item separator closer u >>= closed_or again (found ++ a ∷ [])
items_from separator closer item again found (Some j) w = Done (found, j) w

lists_by : {A : Type 0} (separator closer : Terminal) (r : Read (List A)) (again : List A → List Lexeme → Read (List A × Leaf)) (found : List A)
    → (r >>= λ a. list_rest separator closer again (found ++ a)) ≡ (r >>= λ a w. after_item separator closer w >>= closed_or again (found ++ a))
lists_by separator closer (Done a w) again found = ended_is separator closer again (found ++ a) w
lists_by separator closer (Failed s) again found = refl

items_by : {A : Type 0} (separator closer : Terminal) (r : Read A) (again : List A → List Lexeme → Read (List A × Leaf)) (found : List A)
    → (single r >>= λ a. list_rest separator closer again (found ++ a)) ≡ (r >>= λ a w. after_item separator closer w >>= closed_or again (found ++ a ∷ []))
items_by separator closer (Done a w) again found = ended_is separator closer again (found ++ a ∷ []) w
items_by separator closer (Failed s) again found = refl

closes_by : {A : Type 0} (separator closer : Terminal) (item : List Lexeme → Read (List A)) (again : List A → List Lexeme → Read (List A × Leaf))
    (found : List A) (t : Lexeme) (m l : List Lexeme) (c : Bool)
    → cond c (Done (found, t.leaf) m) (item l >>= λ a w. after_item separator closer w >>= closed_or again (found ++ a))
    ≡ (cond c (Done (Some t.leaf) m) (Done None l) >>= lists_from separator closer item again found)
closes_by separator closer item again found t m l true = refl
closes_by separator closer item again found t m l false = refl

closes_items_by : {A : Type 0} (separator closer : Terminal) (item : List Lexeme → Read A) (again : List A → List Lexeme → Read (List A × Leaf))
    (found : List A) (t : Lexeme) (m l : List Lexeme) (c : Bool)
    → cond c (Done (found, t.leaf) m) (item l >>= λ a w. after_item separator closer w >>= closed_or again (found ++ a ∷ []))
    ≡ (cond c (Done (Some t.leaf) m) (Done None l) >>= items_from separator closer item again found)
closes_items_by separator closer item again found t m l true = refl
closes_items_by separator closer item again found t m l false = refl

pub listed_starved : {A : Type 0} (separator closer : Terminal) (item : List Lexeme → Read (List A)) (n : ℕ) (found : List A) (l : List Lexeme) → n ≡ 0
    → listed separator closer item n found l ≡ Failed Starving
unfolding listed
listed_starved separator closer item n found l e = rw e refl

pub listed_more : {A : Type 0} (separator closer : Terminal) (item : List Lexeme → Read (List A)) (n : ℕ) (found : List A) (l : List Lexeme) → 0 < n
    → listed separator closer item n found l
    ≡ (closes closer l >>= lists_from separator closer item (listed separator closer item (n - 1)) found)
unfolding listed
listed_more separator closer item n found [] h = ap (λ k. listed separator closer item k found []) (turn n h)
listed_more separator closer item n found (t ∷ l) h =
    ap (λ k. listed separator closer item k found (t ∷ l)) (turn n h)
    ∙ ap (λ r. cond (is_same_terminal closer t.terminal) (Done (found, t.leaf) l) r) (lists_by separator closer (item (t ∷ l)) (listed separator closer item (n - 1)) found)
    ∙ closes_by separator closer item (listed separator closer item (n - 1)) found t l (t ∷ l) (is_same_terminal closer t.terminal)

pub several_starved : {A : Type 0} (separator closer : Terminal) (item : List Lexeme → Read A) (n : ℕ) (found : List A) (l : List Lexeme) → n ≡ 0
    → several separator closer item n found l ≡ Failed Starving
unfolding listed several
several_starved separator closer item n found l e = rw e refl

pub several_more : {A : Type 0} (separator closer : Terminal) (item : List Lexeme → Read A) (n : ℕ) (found : List A) (l : List Lexeme) → 0 < n
    → several separator closer item n found l
    ≡ (closes closer l >>= items_from separator closer item (several separator closer item (n - 1)) found)
unfolding listed several
several_more separator closer item n found [] h = ap (λ k. several separator closer item k found []) (turn n h)
several_more separator closer item n found (t ∷ l) h =
    ap (λ k. several separator closer item k found (t ∷ l)) (turn n h)
    ∙ ap (λ r. cond (is_same_terminal closer t.terminal) (Done (found, t.leaf) l) r) (items_by separator closer (item (t ∷ l)) (several separator closer item (n - 1)) found)
    ∙ closes_items_by separator closer item (several separator closer item (n - 1)) found t l (t ∷ l) (is_same_terminal closer t.terminal)

pub ruleset list_turns = (map-append, several_starved, several_more)

pub ruleset listed_turns = (map-append, append-nil, listed_starved, listed_more)

pub ruleset pushes = (map-append, append-nil)

-- The lines of a text, read one after the other.
use Rattle.std.specs.Prelude.{◌≡◌, ◌≢◌, ◌⊎◌, ◌+◌, ℕ, List, [], ◌∷◌, ◌++◌, length, Option, Some, None, IsSome, All, ⊤}
use Rattle.rgo_code_text.specs.declared.places.Place.{Place}
use Rattle.rgo_code_text.specs.declared.places.Place.TheVariants.{First}
use Rattle.rgo_code_text.specs.declared.refusals.ReadError.{ReadError}
use Rattle.rgo_code_text.specs.declared.refusals.ReadError.TheVariants as error
use Rattle.rgo_code_text.specs.Forms.{IsLine, IsFirstWithoutForm}
use Rattle.rgo_code_text.specs.Items.{Item, item_line, ItemFits, place_after_item, place_after_items, items_text}
use Rattle.rgo_code_text.specs.Order.{IsLast}
use Rattle.rgo_code_text.specs.Sizes.{IsTooLongText}

-- the text is that of these lines, each in its place
pub record AreItems (text : List ℕ) (items : List Item) : Type 0 where
  pub place : Place
  pub text_is : text ≡ items_text items
  pub fit : All ItemFits items
  pub leads : place_after_items items First ≡ Some place
  pub last : IsLast place

-- no line that may be at the place has these bytes
abbrev pub HasNoItem : Place → List ℕ → Type 0
HasNoItem place bytes = (item : Item) → ItemFits item → IsSome (place_after_item place item) → bytes ≢ item_line item

-- what a line at a place is, and the place after it; nothing, if it has no form there
abbrev pub StepIs : Place → List ℕ → Option (Item × Place) → Type 0
StepIs place bytes None = HasNoItem place bytes
StepIs place bytes (Some s) = (bytes ≡ item_line s.0) × ItemFits s.0 × (place_after_item place s.0 ≡ Some s.1)

pub record Stops (place : Place) (tail : List ℕ) : Type 0 where
  pub bytes : List ℕ
  pub more : List ℕ
  pub line : IsLine bytes
  pub cut : tail ≡ bytes ++ 10 ∷ more
  pub none : HasNoItem place bytes

pub record CodeTextEnds (place : Place) (tail : List ℕ) : Type 0 where
  pub line : IsLine tail
  pub early : tail ≡ [] → ¬ (IsLast place)

-- line n of the text is not that of an item in its place, and those before it are
pub record StopsAt (text : List ℕ) (n : ℕ) : Type 0 where
  pub before : List Item
  pub place : Place
  pub tail : List ℕ
  pub fit : All ItemFits before
  pub leads : place_after_items before First ≡ Some place
  pub cut : text ≡ items_text before ++ tail
  pub number : length before + 1 ≡ n
  pub stops : Stops place tail ⊎ CodeTextEnds place tail

-- What an error says of a text that is not too large: `TooLarge` is not returned, and `Refused` has the first line without form.
-- `NoMemory` may be returned at any allocation.
abbrev pub StopsIn : List ℕ → ReadError → Type 0
StopsIn text error.NoMemory = ⊤
StopsIn text error.TooLarge = ⊥
StopsIn text (error.Refused r) = StopsAt text r.line

abbrev pub RefusesCodeText : List ℕ → ReadError → Type 0
RefusesCodeText text error.NoMemory = ⊤
RefusesCodeText text error.TooLarge = IsTooLongText text
RefusesCodeText text (error.Refused r) = IsFirstWithoutForm text r.line

-- What is known of a value that was read in steps.
use Rattle.std.proofs.Common.{◌≡◌, Bool, true, false, true≢false, if◌then◌else◌, List, Option, Some, None, Result, Ok, Err, IfOk, MatchResult, OnOk, ℕ, refl, sym, subst, ◌∙◌}
use Rattle.std.specs.Result.{IsErrAnd}
use Rattle.std.specs.Option.{option_map}
use Rattle.std.specs.Str.{bytes_eq}
use Rattle.std.proofs.lemmas.Slice.Eq.{bytes_eq-Decides}
use Rattle.rgo_code_words.specs.Readers.{on_some}

pub some_same : {A : Type 0} (a b : A) → Some a ≡ Some b → a ≡ b
some_same a b e = cc

pub not_none : {A : Type 0} (a : A) → ◌≡◌ {A = Option A} None (Some a) → ⊥
not_none a e = cc

-- under a test
pub record Under {A : Type 0} (t : Bool) (o : Option A) (x : A) : Type 0 where
  pub holds : t ≡ true
  pub is : o ≡ Some x

pub under : {A : Type 0} (t : Bool) (o : Option A) (x : A) → (if t then o else None) ≡ Some x → Under t o x
under true o x e = record { holds = refl; is = e }
under false o x e = absurd (not_none x e)

-- after a value
pub record After {A B : Type 0} (o : Option A) (f : A → Option B) (x : B) : Type 0 where
  pub value : A
  pub was : o ≡ Some value
  pub is : f value ≡ Some x

pub after_some : {A B : Type 0} (o : Option A) (f : A → Option B) (x : B) → on_some o f ≡ Some x → After o f x
after_some None f x e = absurd (not_none x e)
after_some (Some a) f x e = record { value = a; was = refl; is = e }

-- of a value
pub record Mapped {A B : Type 0} (f : A → B) (o : Option A) (x : B) : Type 0 where
  pub value : A
  pub was : o ≡ Some value
  pub is : f value ≡ x

pub mapped : {A B : Type 0} (f : A → B) (o : Option A) (x : B) → option_map f o ≡ Some x → Mapped f o x
mapped f None x e = absurd (not_none x e)
mapped f (Some a) x e = record { value = a; was = refl; is = some_same (f a) x e }

-- one of two, by a test
pub either : {A : Type 0} (t : Bool) (o others : Option A) (x : A) (P : Type 0) → (if t then o else others) ≡ Some x
    → (t ≡ true → o ≡ Some x → P) → (others ≡ Some x → P) → P
either true o others x P e first second = first refl e
either false o others x P e first second = second e

-- the same, where it matters that the test failed
pub either_way : {A : Type 0} (t : Bool) (o others : Option A) (x : A) (P : Type 0) → (if t then o else others) ≡ Some x
    → (t ≡ true → o ≡ Some x → P) → (t ≡ false → others ≡ Some x → P) → P
either_way true o others x P e first second = first refl e
either_way false o others x P e first second = second refl e

-- one of two, by a word
pub by_word : {A : Type 0} (word t : List ℕ) (o others : Option A) (x : A) (P : Type 0)
    → (if bytes_eq word t then o else others) ≡ Some x → (word ≡ t → o ≡ Some x → P) → (others ≡ Some x → P) → P
by_word word t o others x P e first second =
    either (bytes_eq word t) o others x P e (λ q. first ((bytes_eq-Decides word t).0 q)) second

pub differ : (a b : List ℕ) → bytes_eq a b ≡ false → a ≡ b → ⊥
differ a b e q = true≢false (sym ((bytes_eq-Decides a b).1 q) ∙ e)

-- of what a call returned
pub if_ok : {T E : Type 0} (r : Result T E) (P Q : T → Type 0) → IfOk r P → ((x : T) → P x → Q x) → IfOk r Q
if_ok (Ok x) P Q p f = f x p
if_ok (Err e) P Q p f = tt

pub on_ok : {T E : Type 0} (r : Result T E) (P Q : Type 0) → OnOk r P → (P → Q) → OnOk r Q
on_ok (Ok x) P Q p f = f p
on_ok (Err e) P Q p f = tt

-- an error that was handed on
pub handed_on : {T E : Type 0} (r : Result T E) (P : T → Type 0) (Q : E → Type 0) (e : E) → IsErrAnd r (λ x. x ≡ e) → Q e
    → MatchResult r P Q
handed_on (Ok x) P Q e a q = absurd a
handed_on (Err x) P Q e a q = subst Q (sym a) q

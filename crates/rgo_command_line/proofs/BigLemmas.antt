-- What the words after `big` ask for. As for `run`, one word at a time; what differs is that its number is not an option, so a `--` may
-- come before it or after it.
use Rattle.std.proofs.Common.{◌≡◌, ◌∙◌, refl, sym, ap, ap₂, subst, codes, cond, Bool, true, false, ℕ, List, [], ◌∷◌}
use Rattle.std.proofs.Common.{Option, Some, None, ◌⊎◌, inl, inr, option_map}
use Rattle.std.specs.List.{fold}
use Rattle.std.specs.Prelude.{slice_get}
use Rattle.std.specs.Str.{bytes_eq, chars}
use Rattle.std.specs.Str.Parse.{digits_value}
use Rattle.std.proofs.lemmas.Slice.Eq.{bytes_eq-Decides}
use Rattle.clap.specs.Words.{Kinds, Text}
use Rattle.clap.specs.Kinds.{or_else}
use Rattle.clap.specs.Lexer.{long_of, short_of}
use Rattle.clap.specs.Walk.{Held, Walk, finished, nothing_held, settled, walk_from, walked}
use Rattle.clap.specs.Faults.{check_fault, defaults_fault, settle_fault, turn_fault, walk_fault}
use Rattle.clap.proofs.OnLiterals.{clap_on_literals}
use Rattle.rgo_command_line.specs.Commands.{command_of, has_fault}
use Rattle.rgo_command_line.specs.Laws.{HoldNumber}
use Rattle.rgo_command_line.specs.Limits.{big_by, most_big}
use Rattle.rgo_command_line.specs.Numbers.{is_numeral, within}
use Rattle.rgo_command_line.specs.declared.commands.Command.{Command}
use Rattle.rgo_command_line.specs.declared.commands.Command.TheVariants.{Big}
use Rattle.rgo_command_line.proofs.RestLemmas.{after_big, big_leaf, big_met}
use Rattle.rgo_command_line.proofs.WordLemmas.{IsPlain, numeral_is_plain}

-- what is wrong after the walk
abbrev end_fault : Held → Kinds
end_fault held =
    or_else (settle_fault big_leaf.rules big_leaf.args_override_self held)
    (or_else (defaults_fault (settled big_leaf.rules held).rows big_leaf.rules)
    (check_fault big_leaf (finished big_leaf.rules held) false))

-- what the words ask for, with this wrong on the way, and with what is held after them
abbrev verdict : Kinds → Held → Option Command
verdict k held = cond (has_fault (or_else k (end_fault held))) None (big_met (finished big_leaf.rules held))

-- what the words ask for that follow those that led here
unfoldable pub from : Walk → List Text → Option Command
from w rest = verdict (walk_fault big_leaf [] w rest) (fold (walked big_leaf.rules []) w rest).held

-- before the first word
abbrev pub start : Walk
start = walk_from nothing_held

-- before the number, after a `--`
abbrev pub ended : Walk
ended = record start { is_trailing = true }

-- after the number, and perhaps after a `--`
abbrev pub full : Text → Bool → Walk
full x is_trailing = record start {
  held = record nothing_held { pending = Some (codes "goroutines", x ∷ []) };
  position = 2;
  is_trailing = is_trailing;
}

pub at_first : (program : Text) (rest : List Text)
    → command_of (program ∷ codes "big" ∷ rest) ≡ from start rest
unfolding from
at_first program rest = after_big program rest

-- at the end of the words
pub at_end : (x : Text) (b : Bool) → from (full x b) [] ≡ option_map Big (big_by x)
unfolding from clap_on_literals
at_end x b = refl

no_word : from start [] ≡ None
unfolding from clap_on_literals
no_word = refl

no_word_behind : from ended [] ≡ None
unfolding from clap_on_literals
no_word_behind = refl

-- ---- one word more

by_turn : (k turns : Kinds) (held : Held)
    → verdict (or_else k turns) held ≡ cond (has_fault k) None (verdict turns held)
by_turn [] turns held = refl
by_turn (x ∷ xs) turns held = refl

turn : (w : Walk) (x : Text) (xs : List Text)
    → from w (x ∷ xs) ≡ cond (has_fault (turn_fault big_leaf [] w x)) None (from (walked big_leaf.rules [] w x) xs)
unfolding from walk_fault
turn w x xs = by_turn (turn_fault big_leaf [] w x) (walk_fault big_leaf [] (walked big_leaf.rules [] w x) xs)
    (fold (walked big_leaf.rules []) (walked big_leaf.rules [] w x) xs).held

stops : (w : Walk) (x : Text) (xs : List Text)
    → has_fault (turn_fault big_leaf [] w x) ≡ true
    → from w (x ∷ xs) ≡ None
stops w x xs e = turn w x xs ∙ ap (λ (b : Bool). cond b None (from (walked big_leaf.rules [] w x) xs)) e

-- the word is not one too many, and leads there
record Leads (w : Walk) (x : Text) (v : Walk) : Type 0 where
  no_fault : turn_fault big_leaf [] w x ≡ []
  walk : walked big_leaf.rules [] w x ≡ v

leads : (w v : Walk) (x : Text) (xs : List Text) → Leads w x v → from w (x ∷ xs) ≡ from v xs
leads w v x xs l =
    turn w x xs ∙ ap₂ (λ (k : Kinds) (u : Walk). cond (has_fault k) None (from u xs)) l.no_fault l.walk

-- ---- before the number

dashes : (xs : List Text) → from start (codes "--" ∷ xs) ≡ from ended xs
unfolding clap_on_literals
dashes xs = leads start ended (codes "--") xs (record { no_fault = refl; walk = refl })

-- after a `--` every word is the number
behind : (x : Text) (xs : List Text) → from ended (x ∷ xs) ≡ from (full x true) xs
unfolding clap_on_literals
behind x xs = leads ended (full x true) x xs (record { no_fault = refl; walk = refl })

-- a word without dashes is the number
plain : (x : Text) (xs : List Text) → IsPlain x → from start (x ∷ xs) ≡ from (full x false) xs
unfolding clap_on_literals
plain x xs is = leads start (full x false) x xs (record {
  no_fault = rw (is.no_dashes, is.no_long, is.no_short) refl;
  walk = rw (is.no_dashes, is.no_long, is.no_short) refl;
})

-- flags that begin with no character
flags_lead : (x flags : Text) (xs : List Text)
    → bytes_eq x (codes "--") ≡ false
    → long_of x ≡ None
    → short_of x ≡ Some flags
    → slice_get (chars flags) 0 ≡ None
    → from start (x ∷ xs) ≡ from (full x false) xs
unfolding clap_on_literals
flags_lead x [] xs d l s f =
    leads start (full x false) x xs (record { no_fault = rw (d, l, s) refl; walk = rw (d, l, s) refl })
flags_lead x (c ∷ cs) xs d l s f =
    leads start (full x false) x xs (record { no_fault = rw (d, l, s, f) refl; walk = rw (d, l, s, f) refl })

no_first : slice_get (chars []) 0 ≡ None
unfolding clap_on_literals
no_first = refl

-- before a `--`, when a word may still be an option
abbrev open_at : Option (Text × List Text) → ℕ → Walk
open_at pending position =
    record start { held = record nothing_held { pending = pending }; position = position }

-- `big` has no option
long_stops : (pending : Option (Text × List Text)) (position : ℕ) (x : Text) (p : Text × Option Text)
    → bytes_eq x (codes "--") ≡ false
    → long_of x ≡ Some p
    → has_fault (turn_fault big_leaf [] (open_at pending position) x) ≡ true
unfolding clap_on_literals
long_stops pending position x p d l = rw (d, l) refl

flags_stop : (pending : Option (Text × List Text)) (position : ℕ) (x : Text) (c : ℕ) (cs : Text) (y : ℕ)
    → bytes_eq x (codes "--") ≡ false
    → long_of x ≡ None
    → short_of x ≡ Some (c ∷ cs)
    → slice_get (chars (c ∷ cs)) 0 ≡ Some y
    → has_fault (turn_fault big_leaf [] (open_at pending position) x) ≡ true
unfolding clap_on_literals
flags_stop pending position x c cs y d l s f = rw (d, l, s, f) refl

-- a first word other than `--` is the number, or asks for nothing
abbrev Meets : Text → List Text → Type 0
Meets x xs = (from start (x ∷ xs) ≡ None) ⊎ (from start (x ∷ xs) ≡ from (full x false) xs)

first : (x : Text) (xs : List Text) → bytes_eq x (codes "--") ≡ false → Meets x xs
first x xs d = by_long (long_of x) refl
  where
    by_char : (c : ℕ) (cs : Text) (y : Option ℕ)
        → slice_get (chars (c ∷ cs)) 0 ≡ y
        → long_of x ≡ None
        → short_of x ≡ Some (c ∷ cs)
        → Meets x xs
    by_char c cs None f l s = inr (flags_lead x (c ∷ cs) xs d l s f)
    by_char c cs (Some y) f l s = inl (stops start x xs (flags_stop None 1 x c cs y d l s f))

    by_short : (short : Option Text) → short_of x ≡ short → long_of x ≡ None → Meets x xs
    by_short None s l = inr (plain x xs (record { no_dashes = d; no_long = l; no_short = s }))
    by_short (Some []) s l = inr (flags_lead x [] xs d l s no_first)
    by_short (Some (c ∷ cs)) s l = by_char c cs (slice_get (chars (c ∷ cs)) 0) refl l s

    by_long : (long : Option (Text × Option Text)) → long_of x ≡ long → Meets x xs
    by_long None l = by_short (short_of x) refl l
    by_long (Some p) l = inl (stops start x xs (long_stops None 1 x p d l))

-- ---- after the number

dashes_after : (x : Text) (xs : List Text) → from (full x false) (codes "--" ∷ xs) ≡ from (full x true) xs
unfolding clap_on_literals
dashes_after x xs = leads (full x false) (full x true) (codes "--") xs (record { no_fault = refl; walk = refl })

behind_all : (x y : Text) (ys : List Text) → from (full x true) (y ∷ ys) ≡ None
unfolding clap_on_literals
behind_all x y ys = stops (full x true) y ys refl

-- a second word that is not an option
second : (x y : Text) → bytes_eq y (codes "--") ≡ false → long_of y ≡ None
    → (short : Option Text) → short_of y ≡ short
    → has_fault (turn_fault big_leaf [] (full x false) y) ≡ true
unfolding clap_on_literals
second x y d l None s = rw (d, l, s) refl
second x y d l (Some []) s = rw (d, l, s) refl
second x y d l (Some (c ∷ cs)) s = by_char (slice_get (chars (c ∷ cs)) 0) refl
  where
    by_char : (z : Option ℕ)
        → slice_get (chars (c ∷ cs)) 0 ≡ z
        → has_fault (turn_fault big_leaf [] (full x false) y) ≡ true
    by_char None f = rw (d, l, s, f) refl
    by_char (Some z) f = flags_stop (full x false).held.pending 2 y c cs z d l s f

more : (x y : Text) (ys : List Text) → bytes_eq y (codes "--") ≡ false → from (full x false) (y ∷ ys) ≡ None
more x y ys d = by_long (long_of y) refl
  where
    by_long : (long : Option (Text × Option Text)) → long_of y ≡ long → from (full x false) (y ∷ ys) ≡ None
    by_long None l = stops (full x false) y ys (second x y d l (short_of y) refl)
    by_long (Some p) l = stops (full x false) y ys (long_stops (full x false).held.pending 2 y p d l)

-- ---- the words as a whole

-- the words ask for nothing, or hold a number and ask for `big` with it
abbrev pub Found : List Text → Type 0
Found rest = (from start rest ≡ None)
    ⊎ ((x : Text) × HoldNumber x rest × (from start rest ≡ option_map Big (big_by x)))

-- the words after one other than `--`
after_first : (x : Text) (xs : List Text)
    → (from (full x false) xs ≡ None)
    ⊎ (HoldNumber x (x ∷ xs) × (from (full x false) xs ≡ option_map Big (big_by x)))
after_first x [] = inr (inl refl, at_end x false)
after_first x (y ∷ ys) = by_dashes ys (bytes_eq y (codes "--")) refl
  where
    at_dashes : (ys : List Text)
        → (from (full x false) (codes "--" ∷ ys) ≡ None)
        ⊎ (HoldNumber x (x ∷ codes "--" ∷ ys) × (from (full x false) (codes "--" ∷ ys) ≡ option_map Big (big_by x)))
    at_dashes [] = inr (inr (inl refl), dashes_after x [] ∙ at_end x true)
    at_dashes (z ∷ zs) = inl (dashes_after x (z ∷ zs) ∙ behind_all x z zs)

    by_dashes : (ys : List Text) (b : Bool)
        → bytes_eq y (codes "--") ≡ b
        → (from (full x false) (y ∷ ys) ≡ None)
        ⊎ (HoldNumber x (x ∷ y ∷ ys) × (from (full x false) (y ∷ ys) ≡ option_map Big (big_by x)))
    by_dashes ys false d = inl (more x y ys d)
    by_dashes ys true d =
        subst (λ w. (from (full x false) (w ∷ ys) ≡ None)
        ⊎ (HoldNumber x (x ∷ w ∷ ys) × (from (full x false) (w ∷ ys) ≡ option_map Big (big_by x))))
        (sym ((bytes_eq-Decides y (codes "--")).0 d)) (at_dashes ys)

pub found : (rest : List Text) → Found rest
found [] = inl no_word
found (x ∷ xs) = by_dashes (bytes_eq x (codes "--")) refl
  where
    at_dashes : (xs : List Text) → Found (codes "--" ∷ xs)
    at_dashes [] = inl (dashes [] ∙ no_word_behind)
    at_dashes (y ∷ []) =
        inr (y, inr (inr refl), dashes (y ∷ []) ∙ behind y [] ∙ at_end y true)
    at_dashes (y ∷ z ∷ zs) = inl (dashes (y ∷ z ∷ zs) ∙ behind y (z ∷ zs) ∙ behind_all y z zs)

    by_after : from start (x ∷ xs) ≡ from (full x false) xs
        → (from (full x false) xs ≡ None)
        ⊎ (HoldNumber x (x ∷ xs) × (from (full x false) xs ≡ option_map Big (big_by x)))
        → Found (x ∷ xs)
    by_after e (inl none) = inl (e ∙ none)
    by_after e (inr (holds, is)) = inr (x, holds, e ∙ is)

    by_first : Meets x xs → Found (x ∷ xs)
    by_first (inl none) = inl none
    by_first (inr e) = by_after e (after_first x xs)

    by_dashes : (b : Bool) → bytes_eq x (codes "--") ≡ b → Found (x ∷ xs)
    by_dashes true d = subst (λ w. Found (w ∷ xs)) (sym ((bytes_eq-Decides x (codes "--")).0 d)) (at_dashes xs)
    by_dashes false d = by_first (first x xs d)

-- a word that is read as a number is a numeral
by_numeral : (x : Text) (n : ℕ) → big_by x ≡ Some n → is_numeral x ≡ true
by_numeral x n e = by_test (is_numeral x) e
  where
    by_test : (b : Bool) → within 1 most_big (cond b (Some (digits_value 10 x)) None) ≡ Some n → b ≡ true
    by_test true e = refl
    by_test false e = cc

-- words that hold a number ask for it
pub asks : (x : Text) (n : ℕ) (rest : List Text)
    → big_by x ≡ Some n
    → HoldNumber x rest
    → from start rest ≡ Some (Big n)
asks x n rest e holds = by_form holds ∙ ap (option_map Big) e
  where
    is_plain : IsPlain x
    is_plain = numeral_is_plain x (by_numeral x n e)

    by_form : HoldNumber x rest → from start rest ≡ option_map Big (big_by x)
    by_form (inl is) = ap (from start) is ∙ plain x [] is_plain ∙ at_end x false
    by_form (inr (inl is)) =
        ap (from start) is ∙ plain x (codes "--" ∷ []) is_plain ∙ dashes_after x [] ∙ at_end x true
    by_form (inr (inr is)) = ap (from start) is ∙ dashes (x ∷ []) ∙ behind x [] ∙ at_end x true

-- How the line of a pick is read: its word, and its numbers one after the other. A tool of the proof: the meaning of journals is that of
-- Text, by printing, and the law `ReadBack` relates the two.
use Rattle.std.specs.Prelude.{ℕ, ◌==◌, nat_lt, if◌then◌else◌, List, length, take, drop, Option, Some, None, codes}
use Rattle.std.specs.List.{position_or_len, before_first, after_first}
use Rattle.std.specs.Option.{option_map}
use Rattle.std.specs.Str.{bytes_eq}
use denote.Ref.{Bor}
use Rattle.rgo_code_words.specs.Readers.{on_some, read_number}
use Rattle.rgo_journal.specs.declared.picks.TacPick.{TacPick}
use Rattle.rgo_journal.specs.declared.picks.TacPick.TheVariants.{One, Meet, Case, CaseMeet}

-- what follows these bytes at the front, if they are there
abbrev pub after_front : (front bytes : List ℕ) → Option (List ℕ)
after_front front bytes =
    if bytes_eq (take (length front) bytes) front then Some (drop (length front) bytes) else None

-- the number before the first byte of this kind, and what follows that byte
abbrev pub number_to : (byte : ℕ) → List ℕ → Option (ℕ × List ℕ)
number_to byte bytes =
    if nat_lt (position_or_len (λ b. b == byte) bytes) (length bytes)
    then option_map (λ n. (n, after_first (λ b. b == byte) bytes)) (read_number (before_first (λ b. b == byte) bytes))
    else None

-- the numbers of a line, the last of them before the newline, and what follows the line
abbrev pub one_number : List ℕ → Option (ℕ × List ℕ)
one_number bytes = number_to 10 bytes

abbrev pub two_numbers : List ℕ → Option (ℕ × ℕ × List ℕ)
two_numbers bytes = on_some (number_to 32 bytes) (λ a. option_map (λ b. (a.0, b.0, b.1)) (one_number a.1))

abbrev pub three_numbers : List ℕ → Option (ℕ × ℕ × ℕ × List ℕ)
three_numbers bytes = on_some (number_to 32 bytes) (λ a. option_map (λ b. (a.0, b.0, b.1, b.2)) (two_numbers a.1))

-- picks by their numbers
abbrev pub read_one : List ℕ → Option (TacPick × List ℕ)
read_one bytes = option_map (λ a. (One a.0, a.1)) (one_number bytes)

abbrev pub read_meet : List ℕ → Option (TacPick × List ℕ)
read_meet bytes = option_map (λ a. (Meet a.0 a.1, a.2)) (two_numbers bytes)

abbrev pub read_case : List ℕ → Option (TacPick × List ℕ)
read_case bytes = option_map (λ a. (Case a.0 a.1, a.2)) (two_numbers bytes)

abbrev pub read_case_meet : List ℕ → Option (TacPick × List ℕ)
read_case_meet bytes = option_map (λ a. (CaseMeet a.0 a.1 a.2, a.3)) (three_numbers bytes)

-- what is read after a front, or what is read if that is missing
abbrev pub read_after_front : {A : Type 0} → Option (List ℕ) → (List ℕ → Option A) → Option A → Option A
read_after_front None read other = other
read_after_front (Some rest) read other = read rest

-- the pick whose line the bytes begin with, and what follows the line
abbrev pub read_pick : List ℕ → Option (TacPick × List ℕ)
read_pick bytes =
    read_after_front (after_front (codes "one ") bytes) read_one
    (read_after_front (after_front (codes "meet ") bytes) read_meet
    (read_after_front (after_front (codes "case ") bytes) read_case
    (read_after_front (after_front (codes "casemeet ") bytes) read_case_meet None)))

-- what was read, and what follows, as the code has it
abbrev pub seen_one : {A : Type 0} → Option (A × Bor (List ℕ)) → Option (A × List ℕ)
seen_one None = None
seen_one (Some r) = Some (r.0, r.1.now)

abbrev pub seen_two : Option (ℕ × ℕ × Bor (List ℕ)) → Option (ℕ × ℕ × List ℕ)
seen_two None = None
seen_two (Some r) = Some (r.0, r.1, r.2.now)

abbrev pub seen_three : Option (ℕ × ℕ × ℕ × Bor (List ℕ)) → Option (ℕ × ℕ × ℕ × List ℕ)
seen_three None = None
seen_three (Some r) = Some (r.0, r.1, r.2, r.3.now)

-- Comments: to the end of the line, or to the first `*/`, so they do not nest. The first kind leaves its newline in the text, which may
-- have to insert a `;`.
use Rattle.std.specs.Prelude.{ℕ, suc, ◌+◌, Bool, if◌then◌else◌, ◌||◌, ◌==◌, List, [], ◌∷◌, take, drop, codes, Option, Some, None, option_map}
use Rattle.std.specs.List.{list_any, position_or_len}
use Rattle.rgo_lexer.specs.Bytes.{has_prefix}
use Rattle.rgo_lexer.specs.declared.front.Front.{Front}
use Rattle.rgo_lexer.specs.declared.front.Front.TheVariants.{Blank, Newline, Refused}
use Rattle.rgo_lexer.specs.declared.refusals.LexicalKind.TheVariants.{OpenComment}

-- where the first `*/` of a text begins, if it has one
abbrev pub first_close : List ℕ → Option ℕ
first_close [] = None
first_close (b ∷ text) =
    if has_prefix (b ∷ text) (codes "*/") then Some 0 else option_map suc (first_close text)

-- a comment to the end of the line begins here
abbrev pub begins_line_comment : List ℕ → Bool
begins_line_comment text = has_prefix text (codes "//")

-- a comment of either kind begins here
abbrev pub begins_comment : List ℕ → Bool
begins_comment text = begins_line_comment text || has_prefix text (codes "/*")

-- the one byte that ends a line; a carriage return is blank
abbrev pub is_newline : ℕ → Bool
is_newline b = b == 10

-- a comment acts as a newline if it contains one, else as a space
abbrev pub acts_as : List ℕ → ℕ → Front
acts_as text n = if list_any is_newline (take n text) then Newline n else Blank n

-- a comment without its `*/`, rejected at its first byte
abbrev pub open_comment : Front
open_comment = Refused OpenComment 0

-- a general comment, by where the first `*/` after its `/*` begins
abbrev pub closed_at : List ℕ → Option ℕ → Front
closed_at text None = open_comment
closed_at text (Some k) = acts_as text (k + 4)

-- the comment at the front of a text that begins with one
unfoldable pub comment_at : List ℕ → Front
comment_at text =
    if begins_line_comment text then Blank (position_or_len is_newline text)
    else closed_at text (first_close (drop 2 text))

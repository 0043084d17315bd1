-- The text that `big` runs: list functions; for each goroutine a function that sends the sum of a list; and `main`, which starts them
-- all and adds up what they send. It is defined byte by byte, so that all claims about a text hold for it with no rules of its own.
use Rattle.std.specs.Prelude.{ℕ, ◌+◌, ◌%◌, List, ◌++◌, codes, decimal}
use Rattle.std.specs.List.{flat_map, range_with_len}

-- the beginning of the text: the struct of a list, and the functions that make a list and add it up
abbrev pub lists : List ℕ
lists = codes "package main\n\nimport \"fmt\"\n\ntype N struct {\n\tv int\n\tnext *N\n}\n\nfunc list(n int) *N {\n\tvar l *N\n\tfor i := 0; i < n; i++ {\n\t\tl = &N{i, l}\n\t}\n\treturn l\n}\n\nfunc sum(l *N) int {\n\ts := 0\n\tfor l != nil {\n\t\ts += l.v\n\t\tl = l.next\n\t}\n\treturn s\n}\n\n"

-- these bytes followed by a number
abbrev pub numbered_bytes : List ℕ → ℕ → List ℕ
numbered_bytes bytes n = bytes ++ decimal n

-- the function of goroutine k
abbrev pub summer : ℕ → List ℕ
summer k =
    numbered_bytes (codes "func f") k ++ (numbered_bytes (codes "(c chan int) { c <- sum(list(") (k % 10 + 1) ++ codes ")) }\n")

-- the statement that starts goroutine k
abbrev pub starter : ℕ → List ℕ
starter k = numbered_bytes (codes "\tgo f") k ++ codes "(c)\n"

-- the functions of the first n goroutines
abbrev pub summers : ℕ → List ℕ
summers n = flat_map summer (range_with_len 0 n)

-- the statements that start the first n goroutines
abbrev pub starters : ℕ → List ℕ
starters n = flat_map starter (range_with_len 0 n)

-- the rest of `main` after the starts
abbrev pub sums : ℕ → List ℕ
sums n =
    numbered_bytes (codes "\ts := 0\n\tfor i := 0; i < ") n
    ++ (numbered_bytes (codes "; i++ {\n\t\ts += <-c\n\t}\n\tfmt.Println(") n ++ codes ", s)\n}\n")

-- the function `main`: it starts n goroutines and adds up what they send
abbrev pub main_text : ℕ → List ℕ
main_text n = codes "\nfunc main() {\n\tc := make(chan int, 16)\n" ++ (starters n ++ sums n)

-- the whole text for n goroutines
abbrev pub big_text : ℕ → List ℕ
big_text n = lists ++ (summers n ++ main_text n)

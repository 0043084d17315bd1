-- The length of the text, as a bound for each part: so the largest text of `big` is within the limit on texts.
use Rattle.std.proofs.Common.{◌≡◌, ◌+◌, ◌*◌, ◌%◌, ◌^◌, ◌<◌, ◌≤◌, ℕ, zero, suc, List, ◌++◌, length, codes, arith, refl, decimal}
use Rattle.std.specs.List.{flat_map, range_with_len}
use Rattle.std.proofs.Math.Nat.{mod-lt}
use Rattle.std.proofs.lemmas.Fmt.{length-decimal-le}
use Rattle.std.proofs.lemmas.List.{length-append}
use Rattle.rgo_big.specs.Big.{big_text, lists, main_text, numbered_bytes, starter, starters, summer, summers, sums}

-- bytes, a number, and what follows
three_lengths : (a b c : List ℕ) → length (a ++ (b ++ c)) ≡ length a + (length b + length c)
three_lengths a b c = let e = length-append a (b ++ c) in let f = length-append b c in omega (arith, e, f)

number_length : (bytes : List ℕ) (n : ℕ) → n < 2 ^ 32 → length (numbered_bytes bytes n) ≤ length bytes + 10
number_length bytes n small =
    let ten = length-decimal-le 10 n (omega arith) (omega (arith, small)) (omega (arith, small)) in
    omega (arith, ten, length-append bytes (decimal n))

digits_length : (bytes : List ℕ) (k : ℕ) → length (numbered_bytes bytes (k % 10 + 1)) ≤ length bytes + 2
digits_length bytes k =
    let below : k % 10 < 10 = mod-lt k (omega arith) in
    let two = length-decimal-le 2 (k % 10 + 1) (omega arith) (omega (arith, below)) (omega (arith, below)) in
    omega (arith, two, length-append bytes (decimal (k % 10 + 1)))

summer_length : (k : ℕ) → k < 2 ^ 32 → length (summer k) ≤ 52
summer_length k small =
    let first : length (numbered_bytes (codes "func f") k) ≤ 16 = number_length (codes "func f") k small in
    let second : length (numbered_bytes (codes "(c chan int) { c <- sum(list(") (k % 10 + 1)) ≤ 31 =
    digits_length (codes "(c chan int) { c <- sum(list(") k in
    let third : length (codes ")) }\n") ≡ 5 = refl in
    omega (
      arith,
      first,
      second,
      third,
      three_lengths (numbered_bytes (codes "func f") k)
          (numbered_bytes (codes "(c chan int) { c <- sum(list(") (k % 10 + 1)) (codes ")) }\n"),
    )

starter_length : (k : ℕ) → k < 2 ^ 32 → length (starter k) ≤ 19
starter_length k small =
    let first : length (numbered_bytes (codes "\tgo f") k) ≤ 15 = number_length (codes "\tgo f") k small in
    let second : length (codes "(c)\n") ≡ 4 = refl in
    omega (arith, first, second, length-append (numbered_bytes (codes "\tgo f") k) (codes "(c)\n"))

sums_length : (n : ℕ) → n < 2 ^ 32 → length (sums n) ≤ 87
sums_length n small =
    let first : length (numbered_bytes (codes "\ts := 0\n\tfor i := 0; i < ") n) ≤ 35 =
    number_length (codes "\ts := 0\n\tfor i := 0; i < ") n small in
    let second : length (numbered_bytes (codes "; i++ {\n\t\ts += <-c\n\t}\n\tfmt.Println(") n) ≤ 45 =
    number_length (codes "; i++ {\n\t\ts += <-c\n\t}\n\tfmt.Println(") n small in
    let third : length (codes ", s)\n}\n") ≡ 7 = refl in
    omega (
      arith,
      first,
      second,
      third,
      three_lengths (numbered_bytes (codes "\ts := 0\n\tfor i := 0; i < ") n)
          (numbered_bytes (codes "; i++ {\n\t\ts += <-c\n\t}\n\tfmt.Println(") n) (codes ", s)\n}\n"),
    )

-- lines with a bound on the bytes of each
lines_length : (line : ℕ → List ℕ) (most : ℕ) → ((k : ℕ) → k < 2 ^ 32 → length (line k) ≤ most)
    → (count first : ℕ) → first + count ≤ 2 ^ 32
    → length (flat_map line (range_with_len first count)) ≤ most * count
lines_length line most each zero first small = omega arith
lines_length line most each (suc count) first small =
    let one = each first (omega (arith, small)) in
    let others = lines_length line most each count (first + 1) (omega (arith, small)) in
    let whole : length (flat_map line (range_with_len first (suc count)))
    ≡ length (line first) + length (flat_map line (range_with_len (first + 1) count)) =
    length-append (line first) (flat_map line (range_with_len (first + 1) count)) in
    let product : most * suc count ≡ most + most * count = omega arith in
    omega (arith, one, others, whole, product)

pub big_length : (n : ℕ) → n < 2 ^ 32 → length (big_text n) ≤ 71 * n + 364
big_length n small =
    let before : length lists ≡ 237 = refl in
    let functions : length (summers n) ≤ 52 * n = lines_length summer 52 summer_length n 0 (omega (arith, small)) in
    let starts : length (starters n) ≤ 19 * n = lines_length starter 19 starter_length n 0 (omega (arith, small)) in
    let header : length (codes "\nfunc main() {\n\tc := make(chan int, 16)\n") ≡ 40 = refl in
    let end = sums_length n small in
    let whole = three_lengths lists (summers n) (main_text n) in
    let inner = three_lengths (codes "\nfunc main() {\n\tc := make(chan int, 16)\n") (starters n) (sums n) in
    omega (arith, before, functions, starts, header, end, whole, inner)

-- A variable is live exactly in the ranges that end with its readers, and in those that end with blocks that it leaves.
use Rattle.std.proofs.Common.{◌≡◌, ◌⊎◌, ⊎_elim, inl, inr, ◌<◌, ◌≤◌, ℕ, List, [], Vec, vec_len, length, get_or, refl, sym, ap, subst, ◌∙◌, arith}
use Rattle.std.specs.Global.{Global}
use Rattle.std.specs.List.{Contains}
use Rattle.std.specs.Prelude.{◌↔◌, nat_eq, Bool, true, false}
use Rattle.std.proofs.lemmas.List.Folds.{Any-from_list_any, list_any-from_Any}
use Rattle.std.proofs.lemmas.Bool.Decides.{nat_tests}
use Rattle.rgo_graphs.specs.Rows.{Relates, IsTransposed, rows_of, row_at}
use Rattle.rgo_flow.specs.Blocks.{Runs, IsHead}
use Rattle.rgo_flow.specs.Runs.{has}
use Rattle.rgo_flow.specs.declared.ranges.Range.{Range}
use Rattle.rgo_flow.specs.declared.table.Liveness.{Liveness}
use Rattle.rgo_flow.specs.Ranges.{IsCovered, AddsPoints, IsKeptFor, IsKeptOut, ForSome}
use Rattle.rgo_flow.specs.Table.{IsLive}
use Rattle.rgo_flow.specs.Solved.{IsLiveFrom}
use Rattle.rgo_flow.proofs.Covering.{not_empty}
use Rattle.rgo_flow.proofs.Choices.{FirstUses, is_read, is_written, is_unused, some_first_use}

nat_eq_same : (x : ℕ) → nat_eq x x ≡ true
nat_eq_same x = grind (arith, nat_tests)

nat_eq_is : (x y : ℕ) → nat_eq x y ≡ true → x ≡ y
nat_eq_is x y e = grind (arith, nat_tests)

has_member : (xs : List ℕ) (x : ℕ) → Contains xs x → has x xs ≡ true
has_member xs x h =
    list_any-from_Any (nat_eq x) xs (h.0, x, h.1, h.2, nat_eq_same x)

member_has : (xs : List ℕ) (x : ℕ) → has x xs ≡ true → Contains xs x
member_has xs x h =
    let any = Any-from_list_any (nat_eq x) xs h in
    let same : x ≡ any.1 = nat_eq_is x any.1 any.4 in
    subst (Contains xs) (sym same) (any.0, any.2, any.3)

-- the same relation from the other side, by tests
pub tests_transposed : (exits before : List (List ℕ)) → IsTransposed exits before
    → (h s : ℕ) → has s (row_at exits h) ≡ has h (row_at before s)
tests_transposed exits before same h s = both (has s (row_at exits h)) (has h (row_at before s))
    (λ e. has_member (row_at before s) h ((same h s).0 (member_has (row_at exits h) s e)))
    (λ e. has_member (row_at exits h) s ((same h s).1 (member_has (row_at before s) h e)))
  where
    both : (a b : Bool) → (a ≡ true → b ≡ true) → (b ≡ true → a ≡ true) → a ≡ b
    both true b f g = sym (f refl)
    both false true f g = g refl
    both false false f g = refl

pub transposed_tests : (exits before : List (List ℕ))
    → ((h s : ℕ) → has s (row_at exits h) ≡ has h (row_at before s)) → IsTransposed exits before
transposed_tests exits before same h s = (
  λ r. member_has (row_at before s) h (sym (same h s) ∙ has_member (row_at exits h) s r),
  λ r. member_has (row_at exits h) s (same h s ∙ has_member (row_at before s) h r),
)

module _ (first last : List ℕ) (runs : Runs first last) where
  abbrev first_of : ℕ → ℕ
  first_of i = get_or first i 0

  abbrev last_of : ℕ → ℕ
  last_of i = get_or last i 0

  -- an instruction between a block's first and another of the block
  pub same_block : (r at : ℕ) → r < length first → first_of r ≤ at → at ≤ r
      → (first_of at ≡ first_of r) × (last_of at ≡ last_of r)
  same_block r at within from to =
      let head : first_of r < length first = omega (arith, runs.back r within) in
      let above : at ≤ last_of (first_of r) = omega (arith, runs.same r within, runs.ahead r within) in
      let same : first_of at ≡ first_of r = runs.whole (first_of r) at head (runs.head r within) from above in
      (same, sym (runs.same at (omega (arith, to, within))) ∙ ap last_of same ∙ runs.same r within)

  -- an instruction between another and its block's last
  pub later_in_block : (at r : ℕ) → at < length first → at ≤ r → r ≤ last_of at → first_of r ≡ first_of at
  later_in_block at r within from to =
      let head : first_of at < length first = omega (arith, runs.back at within) in
      runs.whole (first_of at) r head (runs.head at within) (omega (arith, runs.back at within, from))
      (omega (arith, runs.same at within, to))

  module _ (exits before : List (List ℕ)) (readers writers solved : List ℕ)
      (heads : (h s : ℕ) → Relates exits h s → IsHead first h) (transposed : IsTransposed exits before)
      (read : (r : ℕ) → Contains readers r → r < length first) where
    abbrev Reach : ℕ → Type 0
    Reach at = ForSome readers (λ r. IsKeptFor first writers r at)
        ⊎ ForSome solved (λ s. ForSome (row_at before s) (λ h. IsKeptOut last writers h at))

    abbrev LiveFrom : ℕ → Type 0
    LiveFrom at = IsLiveFrom exits (first_of at) (last_of at) readers writers solved at

    for_reader : (at r : ℕ) → Contains readers r → IsKeptFor first writers r at → (at < length first) × LiveFrom at
    for_reader at r among kept =
        let within = read r among in
        let block = same_block r at within kept.from kept.to in (
          omega (arith, kept.to, within),
          inl (record {
            at = r;
            from = kept.to;
            to = omega (arith, block.1, runs.ahead r within);
            read = among;
            before = λ m a b w. kept.unwritten m a b w;
          }),
        )

    leaves : (at s h : ℕ) → Contains solved s → Relates exits h s → IsKeptOut last writers h at
        → first_of at ≡ h → last_of at ≡ last_of h → FirstUses readers writers at (last_of at) → LiveFrom at
    leaves at s h into exit kept is_first is_last (is_read r) = inl r
    leaves at s h into exit kept is_first is_last (is_written w) =
        absurd (kept.unwritten w.at w.from (omega (arith, w.to, is_last)) w.written)
    leaves at s h into exit kept is_first is_last (is_unused u) = inr (record {
      passed = u;
      into = s;
      exit = subst (λ b. Relates exits b s) (sym is_first) exit;
      live = into;
    })

    for_exit : (at s h : ℕ) → Contains solved s → Relates before s h → IsKeptOut last writers h at
        → (at < length first) × LiveFrom at
    for_exit at s h into prior kept =
        let exit = (transposed h s).1 prior in
        let head = heads h s exit in
        let end = runs.inside h head.0 in
        let within : at < length first = omega (arith, kept.to, end) in
        let is_first : first_of at ≡ h = runs.whole h at head.0 head.1 kept.from kept.to in
        let is_last : last_of at ≡ last_of h = sym (runs.same at within) ∙ ap last_of is_first in (
          within,
          leaves at s h into exit kept is_first is_last
              (some_first_use readers writers at (last_of at) (runs.ahead at within)),
        )

    pub reached_live : (at : ℕ) → Reach at → (at < length first) × LiveFrom at
    reached_live at h = ⊎_elim
        (λ r. for_reader at r.0 r.1 r.2)
        (λ s. for_exit at s.0 s.2.0 s.1 s.2.1 s.2.2)
        h

    pub live_reached : (at : ℕ) → at < length first → LiveFrom at → Reach at
    live_reached at within live = ⊎_elim
        (λ r. inl (
          r.at,
          r.read,
          record {
            from = omega (arith, later_in_block at r.at within r.from r.to, runs.back at within);
            to = r.from;
            unwritten = λ m a b w. r.before m a b w;
          },
        ))
        (λ p. inr (
          p.into,
          p.live,
          (
            first_of at,
            (transposed (first_of at) p.into).0 p.exit,
            record {
              from = runs.back at within;
              to = omega (arith, runs.same at within, runs.ahead at within);
              unwritten = λ m a b w. p.passed.unwritten m a (omega (arith, b, runs.same at within)) w;
            },
          ),
        ))
        live

-- ---- the ranges of a variable

module _ (s : Liveness) (v : ℕ) (within : v < vec_len s.readers) where
  abbrev reads_at : List ℕ
  reads_at = row_at (rows_of s.readers.items) v

  abbrev writes_at : List ℕ
  writes_at = row_at (rows_of s.writers.items) v

  abbrev solved_at : List ℕ
  solved_at = row_at (rows_of s.solved.items) v

  covers : (some all : List Range)
      → AddsPoints [] some (λ at. ForSome reads_at (λ r. IsKeptFor s.first.items writes_at r at))
      → AddsPoints some all (λ at. ForSome solved_at (λ b. ForSome (row_at (rows_of s.before.items) b)
      (λ h. IsKeptOut s.last.items writes_at h at)))
      → (at : ℕ) → IsCovered all at ↔ IsLive s v at
  covers some all first then at =
      let same = transposed_tests (rows_of s.exits.items) (rows_of s.before.items) s.runs.transposed in (
        λ h.
            let l = reached_live s.first.items s.last.items s.runs.runs (rows_of s.exits.items) (rows_of s.before.items)
            reads_at writes_at solved_at s.runs.heads same (s.runs.read v) at
            (⊎_elim
            (λ m. ⊎_elim (λ o. absurd (not_empty at o)) (λ r. inl r) ((first at).0 m))
            (λ e. inr e)
            ((then at).0 h)) in
            record { point = omega (arith, l.0); variable = within; live = l.1 },
        λ l. (then at).1 (⊎_elim
            (λ r. inl ((first at).1 (inr r)))
            (λ e. inr e)
            (live_reached s.first.items s.last.items s.runs.runs (rows_of s.exits.items) (rows_of s.before.items)
            reads_at writes_at solved_at s.runs.heads same (s.runs.read v) at (omega (arith, l.point)) l.live)),
      )

  pub ranges_live : (fs ls rd wr sv : List ℕ) (bf : List (Vec ℕ Global)) → fs ≡ s.first.items → ls ≡ s.last.items
      → rd ≡ reads_at → wr ≡ writes_at → sv ≡ solved_at → bf ≡ s.before.items → (some all : List Range)
      → AddsPoints [] some (λ at. ForSome rd (λ r. IsKeptFor fs wr r at))
      → AddsPoints some all (λ at. ForSome sv (λ b. ForSome (row_at (rows_of bf) b) (λ h. IsKeptOut ls wr h at)))
      → (at : ℕ) → IsCovered all at ↔ IsLive s v at
  ranges_live fs ls rd wr sv bf is_fs is_ls is_rd is_wr is_sv is_bf some all first then =
      covers some all
      (subst (λ (w : List ℕ). AddsPoints [] some (λ at. ForSome reads_at (λ r. IsKeptFor s.first.items w r at))) is_wr
      (subst (λ (d : List ℕ). AddsPoints [] some (λ at. ForSome d (λ r. IsKeptFor s.first.items wr r at))) is_rd
      (subst (λ (f : List ℕ). AddsPoints [] some (λ at. ForSome rd (λ r. IsKeptFor f wr r at))) is_fs first)))
      (subst (λ (w : List ℕ). AddsPoints some all (λ at. ForSome solved_at (λ b.
      ForSome (row_at (rows_of s.before.items) b) (λ h. IsKeptOut s.last.items w h at)))) is_wr
      (subst (λ (o : List ℕ). AddsPoints some all (λ at. ForSome o (λ b.
      ForSome (row_at (rows_of s.before.items) b) (λ h. IsKeptOut s.last.items wr h at)))) is_sv
      (subst (λ (l : List ℕ). AddsPoints some all (λ at. ForSome sv (λ b.
      ForSome (row_at (rows_of s.before.items) b) (λ h. IsKeptOut l wr h at)))) is_ls
      (subst (λ (q : List (Vec ℕ Global)). AddsPoints some all (λ at. ForSome sv (λ b.
      ForSome (row_at (rows_of q) b) (λ h. IsKeptOut ls wr h at)))) is_bf then))))

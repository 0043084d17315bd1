-- The loads before an operation, and the exchange that locks the channel or misses. What a load finds is kept in the record, so that the
-- exchange can be compared with it.
use Rattle.std.proofs.Common.{◌≡◌, ◌≢◌, ℕ, suc, ◌+◌, ◌==◌, ◌&&◌, Bool, true, false, if◌then◌else◌, [], ◌∷◌, refl, ap, sym, subst, ◌∙◌, arith}
use Rattle.std.proofs.lemmas.Bool.Decides.{nat_tests}
use prog.Atomic.{either}
use Rattle.rgo_core.specs.Channels.Controls.{closed_of, count_of}
use Rattle.rgo_core.specs.Channels.Records.{Locked, ChannelRec as SideRec, Shut, Stranded, with_hold, with_lock, with_look, with_own_look, with_size}
use Rattle.rgo_core.specs.Rule.Histories.{access}
use Rattle.rgo_core.specs.Rule.Views.{Me, number_of}
use Rattle.rgo_core.specs.Rule.declared.accesses.Kind.TheVariants.{Load, LoadControl, LockChannel}
use Rattle.rgo_core.specs.ties.AtChannels.{knows}
use Rattle.rgo_core.specs.Core.{Setup}
use Rattle.rgo_core.specs.Records.{Record, accesses}
use Rattle.rgo_core_steps.specs.Calls.{Did, waited}
use Rattle.rgo_core_steps.specs.Channels.{ShowsCapacity, ShowsControl, ShowsOwnControl}
use Rattle.rgo_core_steps.specs.Seats.{HasAccessed, Settles, mine, settled}
use Rattle.rgo_core_steps.proofs.accesses.Calling.{did_one, did_then, left_record}
use Rattle.rgo_core_steps.proofs.record_steps.Settling.{settled_counts}
use Rattle.rgo_chan.specs.Answers.{Looked, loads_control, locks, looked, misses}

-- ---- a load of the control changes only what was seen

module _ (c : SideRec) (at n : ℕ) where
  abbrev saw_if : Bool → SideRec
  saw_if b = if b then record c { saw = Shut at } else c

  pub look_hold : (with_look c at n).hold ≡ c.hold
  look_hold = by (closed_of n == 1)
    where
      by : (b : Bool) → (saw_if b).hold ≡ c.hold
      by true = refl
      by false = refl

  pub look_size : (with_look c at n).size ≡ c.size
  look_size = by (closed_of n == 1)
    where
      by : (b : Bool) → (saw_if b).size ≡ c.size
      by true = refl
      by false = refl

  pub look_post : (with_look c at n).post ≡ c.post
  look_post = by (closed_of n == 1)
    where
      by : (b : Bool) → (saw_if b).post ≡ c.post
      by true = refl
      by false = refl

  pub look_saw : closed_of n ≡ 1 → (with_look c at n).saw ≡ Shut at
  look_saw e = ap (λ (b : Bool). (saw_if b).saw) test
    where
      test : (closed_of n == 1) ≡ true
      test = grind (arith, nat_tests)

  abbrev own_saw_if : Bool → SideRec
  own_saw_if b = if b then record c { saw = Stranded at } else c

  pub own_hold : (with_own_look c at n).hold ≡ c.hold
  own_hold = by _
    where
      by : (b : Bool) → (own_saw_if b).hold ≡ c.hold
      by true = refl
      by false = refl

  pub own_post : (with_own_look c at n).post ≡ c.post
  own_post = by _
    where
      by : (b : Bool) → (own_saw_if b).post ≡ c.post
      by true = refl
      by false = refl

  pub own_saw : closed_of n ≡ 1 → count_of n ≡ 1 → (with_own_look c at n).saw ≡ Stranded at
  own_saw e f = ap (λ (b : Bool). (own_saw_if b).saw) (ap (λ (b : Bool). b && count_of n == 1) shut ∙ one)
    where
      shut : (closed_of n == 1) ≡ true
      shut = grind (arith, nat_tests)

      one : (count_of n == 1) ≡ true
      one = grind (arith, nat_tests)

-- ---- loads

module _ (T : Setup) (at : ℕ) where
  pub did_control : (q : ℕ) (m w : Me Record) (n s t : ℕ) → Settles T q m
      → HasAccessed T LoadControl at (λ x. x) (ShowsControl (settled T q m) at) m n w → t ≡ s + 1
      → Did T m s (λ g. loads_control at n g ∷ []) (waited 1 (settled T q m) (with_look (settled T q m).side at n)) w t
  did_control q m w n s t settles l one =
      did_one T m w (waited 1 (settled T q m) (with_look (settled T q m).side at n)) l (λ p. p.is)
      (ap suc (settled_counts T (number_of m) q (mine T m) settles)) s t one

  pub did_own_control : (m w : Me Record) (n s t : ℕ)
      → HasAccessed T LoadControl at (λ x. x) (ShowsOwnControl (mine T m) at) m n w → t ≡ s + 1
      → Did T m s (λ g. loads_control at n g ∷ []) (waited 1 (mine T m) (with_own_look (mine T m).side at n)) w t
  did_own_control m w n s t l one =
      did_one T m w (waited 1 (mine T m) (with_own_look (mine T m).side at n)) l (λ p. p.is) refl s t one

  module _ (q : ℕ) (m v w : Me Record) (size n s t u : ℕ) (settles : Settles T q m)
      (a : HasAccessed T Load (at + 1) (λ x. x) (ShowsCapacity T (settled T q m) at) m size v)
      (b : HasAccessed T LoadControl at (λ x. x) (ShowsControl (mine T v) at) v n w) (one : t ≡ s + 1) (two : u ≡ t + 1) where
    abbrev c : Record
    c = settled T q m

    first : ShowsCapacity T c at size (mine T v)
    first = left_record T m v a

    second : ShowsControl (mine T v) at n (mine T w)
    second = left_record T v w b

    loaded : mine T w ≡ waited 2 c (looked at c.side size n)
    loaded = second.is ∙ ap (λ (d : Record). knows d (with_look d.side at n)) first.is

    pub looked_both : Looked T at c size n m s w u
    looked_both = record {
      did = did_then T m v w (knows c (with_size c.side at size)) (waited 2 c (looked at c.side size n)) s t u
          (did_one T m v (knows c (with_size c.side at size)) a (λ p. p.is)
          (ap suc (settled_counts T (number_of m) q (mine T m) settles)) s t one)
          (did_one T v w (waited 2 c (looked at c.side size n)) b (λ p. loaded)
          (sym (ap (λ (d : Record). suc (accesses d)) first.is)) t u two);
      fits = second.fits;
      head = second.head size (ap (λ (d : Record). d.side.size) first.is);
      small = first.small;
      inside = first.inside;
    }

-- ---- the exchange

module _ (T : Setup) (at k : ℕ) (c : Record) (side : SideRec) (v w : Me Record) (n found t u : ℕ) (e : mine T v ≡ waited k c side)
    (l : HasAccessed T LockChannel at (λ x. either (x == n) (n + 1) x) (λ x d. d ≡ knows (mine T v) (with_lock (mine T v).side at n x)) v found w)
    (one : u ≡ t + 1) where
  abbrev lock_if : Bool → Record
  lock_if b = knows (waited k c side) (if b then with_hold side (Locked at n) else side)

  did_if : (b : Bool) → (found == n) ≡ b → accesses (lock_if b) ≡ suc (accesses (mine T v))
      → Did T v t (λ g. access g LockChannel at found (either (found == n) (n + 1) found) ∷ []) (lock_if b) w u
  did_if b test counts =
      did_one T v w (lock_if b) l
      (λ p. p ∙ (ap (λ (r : Record). knows r (with_lock r.side at n found)) e ∙ ap lock_if test))
      counts t u one

  pub lock_misses : found ≢ n → Did T v t (λ g. misses at found g ∷ []) (waited (suc k) c side) w u
  lock_misses other =
      subst (λ x. Did T v t (λ g. access g LockChannel at found x ∷ []) (waited (suc k) c side) w u)
      (ap (λ b. either b (n + 1) found) test)
      (did_if false test (sym (ap (λ (d : Record). suc (accesses d)) e)))
    where
      test : (found == n) ≡ false
      test = grind (arith, nat_tests)

  pub lock_holds : found ≡ n → Did T v t (λ g. locks at n g ∷ []) (waited (suc k) c (with_hold side (Locked at n))) w u
  lock_holds same =
      subst (λ x. Did T v t (λ g. access g LockChannel at x (n + 1) ∷ []) (waited (suc k) c (with_hold side (Locked at n))) w u) same
      (subst (λ x. Did T v t (λ g. access g LockChannel at found x ∷ []) (waited (suc k) c (with_hold side (Locked at n))) w u)
      (ap (λ b. either b (n + 1) found) test)
      (did_if true test (sym (ap (λ (d : Record). suc (accesses d)) e))))
    where
      test : (found == n) ≡ true
      test = grind (arith, nat_tests)

-- Pages that are put on a chain, and chains that are given back, access by access. The loop ends because the record counts the pages
-- that it still owes, and a link of 0 and a count of 0 come together.
use Rattle.std.proofs.Common.{◌≡◌, ℕ, suc, ◌+◌, ◌-◌, ◌*◌, ◌<◌, ◌≤◌, List, [], ◌∷◌, ◌++◌, refl, ap, subst, ◌∙◌, arith, append_assoc, length-append}
use Rattle.rgo_core.specs.Rule.Histories.{access}
use Rattle.rgo_core.specs.Rule.Views.{Me}
use Rattle.rgo_core.specs.Rule.declared.accesses.Access.{Access}
use Rattle.rgo_core.specs.Rule.declared.accesses.Kind.TheVariants.{ClaimPage, ClearHead, FreePage, HangPage, LinkPage, LoadHead, LoadNext}
use Rattle.rgo_core.specs.Memory.Records.{Gave, Giving, Hung, Idle, Past, with_claim, with_give}
use Rattle.rgo_core.specs.Memory.Words.{head_at, next_at, state_at}
use Rattle.rgo_core.specs.Memory.declared.layout.TableSizes.{TableSizes}
use Rattle.rgo_core.specs.moves.Chains.{frees, remembers}
use Rattle.rgo_core.specs.Core.{Setup}
use Rattle.rgo_core.specs.runs.Opening.{first_of}
use Rattle.rgo_core.specs.Records.{Record, accessed, accesses}
use Rattle.rgo_core_steps.specs.Grown.{Made}
use Rattle.rgo_core_steps.specs.Pages.{claims_or_reserves, tried_page}
use Rattle.rgo_core_steps.specs.Searches.{Miss, misses, missing}
use Rattle.rgo_core_steps.specs.Seats.{HasAccessed, Stored, mine}
use Rattle.rgo_core_steps.proofs.accesses.Growing.{made_one, made_then}
use Rattle.rgo_pages.specs.Claiming.{Hooked, PageClaimed, PageTaken}
use Rattle.rgo_pages.specs.Releasing.{ChainGiven, ChainGivenBack, Freed, LinksLeadTo, OneFreed, freed_one, freeing, gave_back, giving}

module _ (T : Setup) (z : TableSizes) (slot : ℕ) where
  abbrev HasMade : Me Record → (ℕ → List Access) → Record → Me Record → Type 0
  HasMade = Made accesses (first_of T.code)

  -- ---- a page is put on its chain

  pub hooked : (page : ℕ) (m v w : Me Record) (n : ℕ)
      → HasAccessed T HangPage (head_at z slot) (λ n. page + 1) (λ n d. d ≡ remembers (mine T m) (with_claim (mine T m).memory (Hung page slot n))) m n v
      → Stored T LinkPage (next_at z page) n (remembers (mine T v) (with_claim (mine T v).memory Idle)) v w
      → Hooked T z (mine T m) page slot m w
  hooked page m v w n a b =
      let first = made_one accesses (first_of T.code) m v HangPage (head_at z slot) n (λ n. page + 1)
      (λ n d. d ≡ remembers (mine T m) (with_claim (mine T m).memory (Hung page slot n)))
      (remembers (mine T m) (with_claim (mine T m).memory (Hung page slot n))) a (λ e. e) refl in
      let second = made_one accesses (first_of T.code) v w LinkPage (next_at z page) b.0 (λ found. n)
      (λ found e. e ≡ remembers (mine T v) (with_claim (mine T v).memory Idle))
      (remembers (mine T v) (with_claim (mine T v).memory Idle)) b.1 (λ e. e) refl in
      record {
        head = n;
        next = b.0;
        made = subst (λ (d : Record). HasMade m
            (λ g. access g HangPage (head_at z slot) n (page + 1) ∷ access g LinkPage (next_at z page) b.0 n ∷ []) d w)
            (ap (λ (e : Record). remembers e (with_claim e.memory Idle)) first.after)
            (made_then accesses (first_of T.code) m v w (λ g. access g HangPage (head_at z slot) n (page + 1) ∷ [])
            (λ g. access g LinkPage (next_at z page) b.0 n ∷ [])
            (remembers (mine T m) (with_claim (mine T m).memory (Hung page slot n)))
            (remembers (mine T v) (with_claim (mine T v).memory Idle)) first second);
      }

  pub page_claimed : (c : Record) (page : ℕ) (m v w : Me Record) → page < z.pages → PageTaken T z slot c page m v
      → Hooked T z (mine T v) page slot v w → PageClaimed T z slot c page m w
  page_claimed c page m v w low t h = record {
    low = low;
    start = t.start;
    inside = t.inside;
    before = t.before;
    after = t.after;
    order = t.order;
    tries = t.took.tries;
    are = t.took.are;
    taken = t.took.taken;
    head = h.head;
    next = h.next;
    made = subst (λ (l : ℕ → List Access). HasMade m l (chained (taken_record t.took.tries)) w)
        (λ j g. append_assoc (misses ClaimPage (state_at z) t.took.tries g) (access g ClaimPage (state_at z page) 0 (slot + 1) ∷ []) (rest g) j)
        (subst (λ (d : Record). HasMade m
        (λ g. (misses ClaimPage (state_at z) t.took.tries g ++ access g ClaimPage (state_at z page) 0 (slot + 1) ∷ []) ++ rest g) d w)
        (ap chained t.took.made.after)
        (made_then accesses (first_of T.code) m v w
        (λ g. misses ClaimPage (state_at z) t.took.tries g ++ access g ClaimPage (state_at z page) 0 (slot + 1) ∷ []) rest
        (taken_record t.took.tries) (chained (mine T v)) t.took.made h.made));
  }
    where
      rest : ℕ → List Access
      rest g = access g HangPage (head_at z slot) h.head (page + 1) ∷ access g LinkPage (next_at z page) h.next h.head ∷ []

      chained : Record → Record
      chained d = record d { clock = accessed (accessed d.clock); memory = with_claim d.memory Idle }

      taken_record : List Miss → Record
      taken_record ts = claims_or_reserves T (missing tried_page c ts) page slot

  -- ---- a page is freed

  pub one_freed : (page : ℕ) (m v w : Me Record) (n : ℕ)
      → HasAccessed T LoadNext (next_at z page) (λ n. n) (λ n d. d ≡ remembers (mine T m) (with_give (mine T m).memory (Past slot (page + 1) n))) m n v
      → Stored T FreePage (state_at z page) 0 (frees (mine T v) slot n) v w
      → OneFreed T z slot (mine T m) page n m w
  one_freed page m v w n a b =
      let first = made_one accesses (first_of T.code) m v LoadNext (next_at z page) n (λ n. n)
      (λ n d. d ≡ remembers (mine T m) (with_give (mine T m).memory (Past slot (page + 1) n)))
      (remembers (mine T m) (with_give (mine T m).memory (Past slot (page + 1) n))) a (λ e. e) refl in
      let second = made_one accesses (first_of T.code) v w FreePage (state_at z page) b.0 (λ found. 0)
      (λ found e. e ≡ frees (mine T v) slot n) (frees (mine T v) slot n) b.1 (λ e. e) refl in
      record {
        state = b.0;
        made = subst (λ (d : Record). HasMade m
            (λ g. access g LoadNext (next_at z page) n n ∷ access g FreePage (state_at z page) b.0 0 ∷ []) d w)
            (ap (λ (e : Record). frees e slot n) first.after)
            (made_then accesses (first_of T.code) m v w (λ g. access g LoadNext (next_at z page) n n ∷ [])
            (λ g. access g FreePage (state_at z page) b.0 0 ∷ [])
            (remembers (mine T m) (with_give (mine T m).memory (Past slot (page + 1) n))) (frees (mine T v) slot n) first second);
      }

  -- ---- a chain is given back

  giving_none : (c : Record) (n : ℕ) → remembers c (with_give c.memory (Giving slot n)) ≡ giving c slot 0 n
  giving_none c n = λ i. record c {
    clock = record c.clock {
      share = record c.clock.share { returned = (let e : c.clock.share.returned ≡ c.clock.share.returned + 0 = omega arith in e) i };
      owed = (let e : c.clock.owed ≡ c.clock.owed - 0 = omega arith in e) i;
      accesses = (let e : suc c.clock.accesses ≡ c.clock.accesses + (2 * 0 + 1) = omega arith in e) i;
    };
    memory = with_give c.memory (Giving slot n);
  }

  pub chain_begun : (m v : Me Record) (n : ℕ)
      → HasAccessed T LoadHead (head_at z slot) (λ n. n) (λ n d. d ≡ remembers (mine T m) (with_give (mine T m).memory (Giving slot n))) m n v
      → ChainGiven T z slot (mine T m) 0 n m v
  chain_begun m v n a = record {
    head = n;
    freed = [];
    chain = refl;
    count = refl;
    low = omega arith;
    made = subst (λ (d : Record). HasMade m (λ g. access g LoadHead (head_at z slot) n n ∷ []) d v) (giving_none (mine T m) n)
        (made_one accesses (first_of T.code) m v LoadHead (head_at z slot) n (λ n. n)
        (λ n d. d ≡ remembers (mine T m) (with_give (mine T m).memory (Giving slot n)))
        (remembers (mine T m) (with_give (mine T m).memory (Giving slot n))) a (λ e. e) refl);
  }

  leads_more : (h : ℕ) (fs : List Freed) (f : Freed) (cursor : ℕ) → LinksLeadTo h fs cursor → cursor ≡ suc f.page → LinksLeadTo h (fs ++ f ∷ []) f.next
  leads_more h [] f cursor l e = (l ∙ e, refl)
  leads_more h (x ∷ fs) f cursor l e = (l.0, leads_more x.next fs f cursor l.1 e)

  freeing_more : (fs : List Freed) (f : Freed) (g : ℕ) → freeing z fs g ++ freeing z (f ∷ []) g ≡ freeing z (fs ++ f ∷ []) g
  freeing_more [] f g = refl
  freeing_more (x ∷ fs) f g =
      ap (λ (l : List Access). access g LoadNext (next_at z x.page) x.next x.next ∷ access g FreePage (state_at z x.page) x.state 0 ∷ l)
      (freeing_more fs f g)

  giving_more : (c : Record) (n page next : ℕ) → freed_one (giving c slot n (page + 1)) slot page next ≡ giving c slot (n + 1) next
  giving_more c n page next = λ i. record c {
    clock = record c.clock {
      share = record c.clock.share {
        returned = (let e : suc (c.clock.share.returned + n) ≡ c.clock.share.returned + (n + 1) = omega arith in e) i;
      };
      owed = (let e : c.clock.owed - n - 1 ≡ c.clock.owed - (n + 1) = omega arith in e) i;
      accesses = (let e : suc (suc (c.clock.accesses + (2 * n + 1))) ≡ c.clock.accesses + (2 * (n + 1) + 1) = omega arith in e) i;
    };
    memory = with_give c.memory (Giving slot next);
  }

  -- a page is still owed where one is freed
  pub still_owes : (c : Record) (n page : ℕ) (m v : Me Record) → ChainGiven T z slot c n (page + 1) m v → 0 < (mine T v).clock.owed
      → n + 1 ≤ c.clock.owed
  still_owes c n page m v k some =
      let e : (mine T v).clock.owed ≡ c.clock.owed - n = ap (λ (d : Record). d.clock.owed) k.made.after in
      omega (arith, e, some)

  pub chain_more : (c : Record) (n page next : ℕ) (m v w : Me Record) → ChainGiven T z slot c n (page + 1) m v
      → 0 < (mine T v).clock.owed → OneFreed T z slot (mine T v) page next v w → ChainGiven T z slot c (n + 1) next m w
  chain_more c n page next m v w k some one =
      let f : Freed = record { page = page; next = next; state = one.state } in
      record {
        head = k.head;
        freed = k.freed ++ f ∷ [];
        chain = leads_more k.head k.freed f (page + 1) k.chain (let e : page + 1 ≡ suc page = omega arith in e);
        count = (let a = length-append k.freed (f ∷ []) in let b = k.count in omega (arith, a, b));
        low = still_owes c n page m v k some;
        made = subst (λ (l : ℕ → List Access). HasMade m l (giving c slot (n + 1) next) w)
            (λ j g. access g LoadHead (head_at z slot) k.head k.head ∷ freeing_more k.freed f g j)
            (subst (λ (d : Record). HasMade m
            (λ g. access g LoadHead (head_at z slot) k.head k.head ∷ (freeing z k.freed g ++ freeing z (f ∷ []) g)) d w)
            (ap (λ (d : Record). freed_one d slot page next) k.made.after ∙ giving_more c n page next)
            (made_then accesses (first_of T.code) m v w (λ g. access g LoadHead (head_at z slot) k.head k.head ∷ freeing z k.freed g)
            (freeing z (f ∷ [])) (giving c slot n (page + 1)) (freed_one (mine T v) slot page next) k.made one.made));
      }

  giving_all : (c : Record) (n : ℕ) → n ≡ c.clock.owed → remembers (giving c slot n 0) (with_give (giving c slot n 0).memory (Gave slot)) ≡ gave_back c slot
  giving_all c n all = λ i. record c {
    clock = record c.clock {
      share = record c.clock.share {
        returned = (let e : c.clock.share.returned + n ≡ c.clock.share.returned + c.clock.owed = omega (arith, all) in e) i;
      };
      owed = (let e : c.clock.owed - n ≡ 0 = omega (arith, all) in e) i;
      accesses = (let e : suc (c.clock.accesses + (2 * n + 1)) ≡ c.clock.accesses + (2 * c.clock.owed + 2) = omega (arith, all) in e) i;
    };
    memory = with_give c.memory (Gave slot);
  }

  -- as many were freed as were owed
  pub all_freed : (c : Record) (n : ℕ) (m v : Me Record) → ChainGiven T z slot c n 0 m v → (mine T v).clock.owed ≡ 0 → n ≡ c.clock.owed
  all_freed c n m v k none =
      let e : (mine T v).clock.owed ≡ c.clock.owed - n = ap (λ (d : Record). d.clock.owed) k.made.after in
      let low = k.low in
      omega (arith, e, none, low)

  pub chain_ended : (c : Record) (n : ℕ) (m v w : Me Record) → ChainGiven T z slot c n 0 m v → (mine T v).clock.owed ≡ 0
      → Stored T ClearHead (head_at z slot) 0 (remembers (mine T v) (with_give (mine T v).memory (Gave slot))) v w
      → ChainGivenBack T z slot c n m w
  chain_ended c n m v w k none b =
      let last = made_one accesses (first_of T.code) v w ClearHead (head_at z slot) b.0 (λ found. 0)
      (λ found e. e ≡ remembers (mine T v) (with_give (mine T v).memory (Gave slot)))
      (remembers (mine T v) (with_give (mine T v).memory (Gave slot))) b.1 (λ e. e) refl in
      record {
        head = k.head;
        freed = k.freed;
        cleared = b.0;
        chain = k.chain;
        count = k.count;
        made = subst (λ (d : Record). HasMade m
            (λ g. access g LoadHead (head_at z slot) k.head k.head ∷ (freeing z k.freed g ++ access g ClearHead (head_at z slot) b.0 0 ∷ [])) d w)
            (ap (λ (d : Record). remembers d (with_give d.memory (Gave slot))) k.made.after
            ∙ giving_all c n (all_freed c n m v k none))
            (made_then accesses (first_of T.code) m v w (λ g. access g LoadHead (head_at z slot) k.head k.head ∷ freeing z k.freed g)
            (λ g. access g ClearHead (head_at z slot) b.0 0 ∷ []) (giving c slot n 0)
            (remembers (mine T v) (with_give (mine T v).memory (Gave slot))) k.made last);
      }

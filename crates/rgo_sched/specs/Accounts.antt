-- What was put into a deque is what was taken from it and what it holds, position by position. Passes know only their own part, so
-- the rule is about the sum over all accounts.
use Rattle.std.specs.Prelude.{◌≡◌, ℕ, ◌+◌, ◌-◌, ◌++◌, List, [], ◌∷◌}
use mathlib.Core.Option.{some}
use lib.ListN.{get_elem?}
use Rattle.rgo_sched.specs.declared.accounts.Account.{Account}

-- the sum of a weight over a list
abbrev pub total_weight : {A : Type 0} → (A → ℕ) → List A → ℕ
total_weight f [] = 0
total_weight f (x ∷ xs) = f x + total_weight f xs

-- an account by its three fields
abbrev pub account : ℕ → List ℕ → List ℕ → Account
account parts put taken = record { parts = parts; put = put; taken = taken }

-- the account of the owner of a new deque, that of a new pass, and that of a pass after it was joined into another one
abbrev pub all_parts : Account
all_parts = account 128 [] []

abbrev pub one_part : Account
one_part = account 1 [] []

abbrev pub no_part : Account
no_part = account 0 [] []

-- what is left of an account that has given away a part
abbrev pub less_one : Account → Account
less_one v = account (v.parts - 1) v.put v.taken

abbrev pub joined_accounts : Account → Account → Account
joined_accounts v w = account (v.parts + w.parts) (v.put ++ w.put) (v.taken ++ w.taken)

-- An account without a part has put and taken nothing. So accounts that were joined into others do not count twice.
abbrev pub IdleIsEmpty : List Account → Type 0
IdleIsEmpty views = (port : ℕ) (v : Account) → get_elem? views port ≡ some v → v.parts ≡ 0 → (v.put ≡ []) × (v.taken ≡ [])

-- The rule of a deque that holds these positions, over the accounts of all its passes. `even` quantifies over weights of positions,
-- so one field serves for all counts: with the weight 1 it counts them, and with `only k` it excludes that k is lost or doubled.
-- By `whole` an owner with all 128 parts knows that no other account has anything.
pub record Balanced (items : List ℕ) (views : List Account) : Type 0 where
  -- so a pass with all parts knows that no other one has put or taken anything
  pub whole : total_weight (λ v. v.parts) views ≡ 128
  pub even : (w : ℕ → ℕ) → total_weight (λ v. total_weight w v.put) views ≡ total_weight (λ v. total_weight w v.taken) views + total_weight w items
  -- so accounts that were joined are not counted twice
  pub idle : IdleIsEmpty views

-- from v to w the positions xs were taken
abbrev pub Took : Account → List ℕ → Account → Type 0
Took v xs w = w ≡ account v.parts v.put (v.taken ++ xs)

-- from v to w the positions xs were put
abbrev pub Put : Account → List ℕ → Account → Type 0
Put v xs w = w ≡ account v.parts (v.put ++ xs) v.taken

-- what was taken from v to w is what the list of done tasks has more
abbrev pub TookInto : Account → Account → List ℕ → List ℕ → Type 0
TookInto v w old new = (xs : List ℕ) × Took v xs w × (new ≡ old ++ xs)

use Rattle.std.proofs.Common.{◌≡◌, ℕ, Option, None, Some, ap, arith, if◌then◌else◌, nat_eq, slice_set, sym, ◌∙◌}
use Rattle.std.specs.HashMap.{get}
use Rattle.rgo_holding.specs.declared.keys.Key.{Key}
use Rattle.rgo_holding.specs.Entries.{new_entry}
use Rattle.rgo_holding.proofs.Starting.{learn_region, learn_shows, learn_still, learn_tracks, tracked}
use Rattle.rgo_holding.proofs.Twice.{since_ok}
use Rattle.rgo_holding.proofs.holding.Holding.learn.Goals as goal

pub returns-in-Some-clause-key : goal.returns-in-Some-clause-key
returns-in-Some-clause-key c = λ tracks other.
    tracked c.args.self.now (get nat_eq c.args.known.now) c.args.slot c.in-Some.key tracks (sym c.key_of.ensures ∙ c.in-Some.is) other

pub returns-clause-tracks : goal.returns-clause-tracks
returns-clause-tracks c = λ tracks.
    let k = c.args.self.now in
    let known : ℕ → Option Key = get nat_eq c.args.known.now in
    let after : ℕ → Option Key = get nat_eq c.insert.new.self in
    let number : c.in-Ok.number ≡ c.args.slot = omega (arith, c.in-Ok.ensures) in
    let is = c.put.ensures ∙ ap (slice_set c.spare_key.new.entries.items c.in_ok-key.key.0) (c.new_entry.ensures ∙ ap new_entry number) in
    let none : known c.args.slot ≡ None = sym c.key_of.ensures ∙ c.in_default.is in
    let more : (s : ℕ) → after s ≡ (if nat_eq c.args.slot s then Some c.in_ok-key.key else known s) =
    (since_ok c.insert.result _ (sym c.if-is_err.ensures.value) c.insert.ensures.updates).0 in
    learn_tracks k c.spare_key.new.entries c.put.new.entries c.spare_key.new.free c.in_ok-key.key c.args.slot known after c.spare_key.ensures.same c.in_ok-key.ensures.spare is none more tracks

pub returns-clause-shows : goal.returns-clause-shows
returns-clause-shows c = λ slots stakes tracks shows apart staked.
    let k = c.args.self.now in
    let known : ℕ → Option Key = get nat_eq c.args.known.now in
    let after : ℕ → Option Key = get nat_eq c.insert.new.self in
    let number : c.in-Ok.number ≡ c.args.slot = omega (arith, c.in-Ok.ensures) in
    let is = c.put.ensures ∙ ap (slice_set c.spare_key.new.entries.items c.in_ok-key.key.0) (c.new_entry.ensures ∙ ap new_entry number) in
    let none : known c.args.slot ≡ None = sym c.key_of.ensures ∙ c.in_default.is in
    let more : (s : ℕ) → after s ≡ (if nat_eq c.args.slot s then Some c.in_ok-key.key else known s) =
    (since_ok c.insert.result _ (sym c.if-is_err.ensures.value) c.insert.ensures.updates).0 in
    learn_shows k c.spare_key.new.entries c.put.new.entries c.spare_key.new.free c.in_ok-key.key c.args.slot known after c.spare_key.ensures.same c.in_ok-key.ensures.spare is none more slots stakes tracks shows apart staked

pub returns-clause-key : goal.returns-clause-key
returns-clause-key c = λ tracks other.
    let k = c.args.self.now in
    let known : ℕ → Option Key = get nat_eq c.args.known.now in
    let after : ℕ → Option Key = get nat_eq c.insert.new.self in
    let number : c.in-Ok.number ≡ c.args.slot = omega (arith, c.in-Ok.ensures) in
    let is = c.put.ensures ∙ ap (slice_set c.spare_key.new.entries.items c.in_ok-key.key.0) (c.new_entry.ensures ∙ ap new_entry number) in
    let none : known c.args.slot ≡ None = sym c.key_of.ensures ∙ c.in_default.is in
    let more : (s : ℕ) → after s ≡ (if nat_eq c.args.slot s then Some c.in_ok-key.key else known s) =
    (since_ok c.insert.result _ (sym c.if-is_err.ensures.value) c.insert.ensures.updates).0 in
    learn_region k c.spare_key.new.entries c.put.new.entries c.spare_key.new.free c.in_ok-key.key c.args.slot known after c.spare_key.ensures.same c.in_ok-key.ensures.spare is none more other

pub returns-clause-still : goal.returns-clause-still
returns-clause-still c = λ key r at.
    let k = c.args.self.now in
    let known : ℕ → Option Key = get nat_eq c.args.known.now in
    let after : ℕ → Option Key = get nat_eq c.insert.new.self in
    let number : c.in-Ok.number ≡ c.args.slot = omega (arith, c.in-Ok.ensures) in
    let is = c.put.ensures ∙ ap (slice_set c.spare_key.new.entries.items c.in_ok-key.key.0) (c.new_entry.ensures ∙ ap new_entry number) in
    let none : known c.args.slot ≡ None = sym c.key_of.ensures ∙ c.in_default.is in
    let more : (s : ℕ) → after s ≡ (if nat_eq c.args.slot s then Some c.in_ok-key.key else known s) =
    (since_ok c.insert.result _ (sym c.if-is_err.ensures.value) c.insert.ensures.updates).0 in
    learn_still k c.spare_key.new.entries c.put.new.entries c.spare_key.new.free c.in_ok-key.key c.args.slot known after c.spare_key.ensures.same c.in_ok-key.ensures.spare is none more key r at

use Rattle.std.proofs.Common.{◌≡◌, ◌<◌, ◌≤◌}
use Rattle.rgo_core_rule.specs.Counting.{drew, new_adder}
use Rattle.rgo_core_rule.specs.Views.{record_of}
use Rattle.rgo_core_rule.specs.declared.accesses.Kind.TheVariants as kind
use Rattle.rgo_core_rule.proofs.counting.start.Given as goal

abbrev pub ghosts-fetch_add_start : goal.ghosts-fetch_add_start
ghosts-fetch_add_start a = record {
  kind = kind.DrawNumber;
  tells = λ n d. (a._about.now ≤ n) × (d ≡ drew (record_of new_adder a.seat.now.me));
  tells_child = λ n d child. (n < a._about.now) × (d ≡ drew (record_of new_adder a.seat.now.me)) × (child ≡ new_adder);
}

use Rattle.std.proofs.Common.{◌∙◌, sym, subst}
use Rattle.std.specs.Bool.{Decides}
use Rattle.rgo_code.specs.NameRules.{EntryLendsResult}
use Rattle.rgo_checker.specs.ClassTests.{is_free}
use Rattle.rgo_checker.specs.Instrs.{EntryKept}
use Rattle.rgo_checker.proofs.decides.LendingLaws.{entry_lends_decided}
use Rattle.rgo_checker.proofs.entries.keeps.Goals as goal

pub returns-in-Entry : goal.returns-in-Entry
returns-in-Entry c = rw c.in-Entry.is c.entry_known.ensures

pub returns-in-Lending : goal.returns-in-Lending
unfolding EntryKept
returns-in-Lending c =
    rw c.in-Lending.is
    (subst (λ b. Decides b (EntryLendsResult c.args.f.now))
    (sym (c.is_free.ensures ∙ (λ j. is_free (c.result_class.ensures j) (c.entry.ensures j))))
    (entry_lends_decided c.args.f.now))

pub returns-in-Removals : goal.returns-in-Removals
returns-in-Removals c = rw c.in-Removals.is c.entry_removes_dead.ensures

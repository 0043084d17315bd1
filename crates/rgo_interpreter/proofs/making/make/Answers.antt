use Rattle.std.proofs.Common.{rules}
use Rattle.rgo_interpreter.proofs.Heap.{unchanged, grown}
use Rattle.rgo_interpreter.proofs.making.make.Goals as goal

pub returns : goal.returns
returns c =
    let put = c.in_ok-put.ensures in
    grown c.args.memory.now (record c.put.new.memory { made = c.in-Some.more }) put.variables put.kept c.in-Some.ensures.1
    c.args.object put.put

pub returns-in_err-put : goal.returns-in_err-put
returns-in_err-put c =
    let put = c.in_err-put.ensures in
    let same = unchanged c.args.memory.now c.put.new.memory put.variables put.kept put.made in
    search (rules, same)

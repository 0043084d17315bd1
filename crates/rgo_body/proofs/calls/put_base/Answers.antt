use Rattle.std.proofs.Common.{◌≡◌, ◌-◌, ◌++◌, drop, map, sym, ap, ◌∙◌, arith}
use Rattle.rgo_sound.specs.RegionMachine.States.{EndBase}
use Rattle.rgo_body.proofs.PuttingBase.{put_none, put_one}
use Rattle.rgo_body.proofs.Starting.{none_at}
use Rattle.rgo_body.proofs.calls.put_base.Goals as goal

pub loop-i-init : goal.loop-i-init
loop-i-init c h fills slots holds =
    put_none h.base c.base_len-i.result c.args.queue.now.duties c.args.queue.now.room (c.base_len-i.ensures slots h fills holds)

pub put-requires : goal.put-requires
put-requires c =
    let k = c.requires.room in
    let v = c.loop-i.invariant k.0 k.1 k.2 k.3 in
    let r = v.2 in
    let l = k.4 in
    let t = c.loop-i-test.true in
    record { room = omega (arith, r, l, t) }

pub loop-i-preserved : goal.loop-i-preserved
loop-i-preserved c h fills slots holds =
    let v = c.loop-i.invariant h fills slots holds in
    put_one h.base c.loop-i.i c.in-Some.region c.args.queue.now.duties c.loop-i.queue.duties c.put.new.self.duties
    c.args.queue.now.room c.loop-i.queue.room c.put.new.self.room c.loop-i-test.true v.0 v.1 v.2
    (sym (c.in-Some.ensures slots h fills holds)) c.put.ensures.put c.put.ensures.room

pub unreachable-requires : goal.unreachable-requires
unreachable-requires c =
    let k = c.requires.room in
    let v = c.loop-i.invariant k.0 k.1 k.2 k.3 in
    let l = v.0 in
    let t = c.loop-i-test.true in
    none_at k.0.base (c.loop-i.i - 1) (sym (c.in-None.ensures k.2 k.0 k.1 k.3)) (omega (arith, l, t))

pub returns : goal.returns
returns c h fills slots holds =
    let v = c.loop-i.invariant h fills slots holds in
    let f = c.loop-i-test.false in
    let none : c.loop-i.i ≡ 0 = omega (arith, f) in
    v.1 ∙ ap (λ i. map EndBase (drop i h.base) ++ c.args.queue.now.duties) none

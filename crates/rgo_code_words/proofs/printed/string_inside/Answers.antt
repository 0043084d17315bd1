use Rattle.std.proofs.Common.{◌-◌, length, take, drop, length-drop, arith, sym, ap, ◌∙◌}
use Rattle.rgo_code_words.specs.Pieces.{string_byte}
use Rattle.rgo_code_words.proofs.ListFacts.{rest_of}
use Rattle.rgo_code_words.proofs.PieceFronts.{inside_more, byte_some}
use Rattle.rgo_code_words.proofs.printed.string_inside.Goals as goal

pub loop-byte-smaller : goal.loop-byte-smaller
loop-byte-smaller c =
    let bytes = c.args.bytes.now in
    let at = c.loop-byte.at in
    let rest = take (length bytes - at) (drop at bytes) in
    let b = byte_some rest (c.in-Some.byte, c.in-Some.len) (sym c.string_byte.ensures ∙ c.in-Some.is) in
    omega (arith, b.0, b.1, ap length (rest_of bytes at), length-drop at bytes, c.loop-byte.invariant.within)

pub loop-byte-preserved : goal.loop-byte-preserved
loop-byte-preserved c =
    let bytes = c.args.bytes.now in
    let at = c.loop-byte.at in
    inside_more bytes c.loop-byte.inside.items c.push.new.self.items (take (length bytes - at) (drop at bytes)) at
    (c.in-Some.byte, c.in-Some.len) (rest_of bytes at) (sym c.string_byte.ensures ∙ c.in-Some.is)
    c.in_ok-push.ensures.items c.loop-byte.invariant

pub returns : goal.returns
returns c =
    let bytes = c.args.bytes.now in
    let at = c.loop-byte.at in
    rw c.new.ensures (record {
      cut = c.loop-byte.invariant.cut;
      within = c.loop-byte.invariant.within;
      fits = c.loop-byte.invariant.fits;
      stops = ap string_byte (sym (rest_of bytes at)) ∙ sym c.string_byte.ensures ∙ c.in_default.is;
    })

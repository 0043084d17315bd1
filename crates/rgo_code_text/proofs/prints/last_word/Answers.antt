use Rattle.std.proofs.Common.{inr, ◌-◌, ◌<◌, length, take, drop, ap, arith, length-drop}
use Rattle.rgo_code_words.proofs.ListFacts.{rest_of}
use Rattle.rgo_code_text.proofs.op_lines.PrintWords.{space_here}
use Rattle.rgo_code_text.proofs.prints.last_word.Goals as goal

pub words-preserved : goal.words-preserved
words-preserved c =
    let bytes = c.args.bytes.now in
    let at = c.words.at in
    let rest = take (length bytes - at) (drop at bytes) in
    let less : c.len_to-len.result < length rest = omega (arith, c.if-len-rest.false, c.len_to-len.ensures.within) in
    record {
      within = omega (arith, less, ap length (rest_of bytes at), length-drop at bytes);
      before = inr (omega arith, space_here bytes rest at c.len_to-len.result (rest_of bytes at) c.len_to-len.ensures.len less);
    }

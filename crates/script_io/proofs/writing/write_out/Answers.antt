use Rattle.std.proofs.Common.{refl, rules}
use Rattle.script_io.proofs.PieceLemmas.{takes_more, writes_all, writes_part, written_further}
use Rattle.script_io.proofs.writing.write_out.Goals as goal

-- the write took the next bytes of the text
pub loop-count-preserved : goal.loop-count-preserved
loop-count-preserved g c = record {
  within = search rules;
  written = written_further _ _ _ c.args.text.now c.loop-count.count c.in-Some.taken c.loop-count.invariant.written c.in-Some.ensures.taken;
  sound = c.in-Some.ensures.sound;
  told = takes_more _ _ _ c.loop-count.invariant.told c.in-Some.ensures.told.0 c.in-Some.ensures.told.1 c.in-Some.ensures.told.2;
}

-- the last write failed
pub returns-in-None-clause-told : goal.returns-in-None-clause-told
returns-in-None-clause-told g c = writes_part _ _ _ c.loop-count.invariant.told (c.in-None.ensures.broken refl) c.loop-count.count

-- each write took some of the text
pub returns-clause-told : goal.returns-clause-told
returns-clause-told g c = writes_all _ _ c.loop-count.invariant.told

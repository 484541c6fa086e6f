use Rattle.script_reasons.proofs.reason.Reason.write.Goals as goal

-- the cache, and the elements that it needs
pub returns-in-Threshold : goal.returns-in-Threshold
returns-in-Threshold g c = rw c.in-Threshold.is c.write_numbers-in-Threshold.ensures

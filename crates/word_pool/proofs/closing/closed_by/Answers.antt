use Rattle.word_pool.proofs.closing.closed_by.Goals as goal

-- what is left is what the ground tells of the seat that closed it
pub returns-in-Ok-clause-closed : goal.returns-in-Ok-clause-closed
returns-in-Ok-clause-closed c = record {
  limits = c.limits-limits.ensures.limits;
  pool = c.limits-limits.ensures.pool;
  left = c.in-Ok.ensures.closed;
  desks = c.in-Ok.ensures.desks;
  noted = c.in-Ok.ensures.noted;
  start = c.in-Ok.ensures.fresh;
}

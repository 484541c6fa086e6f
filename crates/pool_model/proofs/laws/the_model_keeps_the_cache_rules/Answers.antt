-- Each rule's calls, answered by the stack, are the requests that the model makes.
use Rattle.pool_model.proofs.CacheRules.{got_by, put_by, flushed_by}
use Rattle.pool_model.proofs.laws.the_model_keeps_the_cache_rules.Goals as goal

pub returns-clause-get : goal.returns-clause-get
returns-clause-get c = λ l cache n calls answer left s t g h. got_by s t l cache n calls answer left g h

pub returns-clause-put : goal.returns-clause-put
returns-clause-put c = λ l cache list calls answer left s t p h. put_by s t l cache list calls answer left p h

pub returns-clause-flush : goal.returns-clause-flush
returns-clause-flush c = λ cache calls answer left s t f h. flushed_by s t cache calls answer left f h

use Rattle.cw_laws.proofs.fact_laws.producer_facts_hold.Goals as goal

pub returns-clause-generation : goal.returns-clause-generation
returns-clause-generation c = λ setting s n id f unfenced. f.producers.generation n id unfenced

pub returns-clause-counted : goal.returns-clause-counted
returns-clause-counted c = λ setting s n id f unfenced. f.producers.counted n id unfenced

pub returns-clause-positions : goal.returns-clause-positions
returns-clause-positions c = λ setting s n id f unfenced fetched. f.producers.positions n id unfenced fetched

pub returns-clause-apart : goal.returns-clause-apart
returns-clause-apart c = λ setting s m n a b f different one other same. f.producers.apart m n a b different one other same

pub returns-clause-task : goal.returns-clause-task
returns-clause-task c = λ setting s n id f newest. f.producers.task n id newest

pub returns-clause-one_batch : goal.returns-clause-one_batch
returns-clause-one_batch c = λ setting s n id epoch f writes has. f.producers.one_batch n id epoch writes has

pub returns-clause-fencing : goal.returns-clause-fencing
returns-clause-fencing c = λ setting s w n fencing id f fences unfenced own older. f.producers.fencing w n fencing id fences unfenced own older

pub returns-clause-not_ahead : goal.returns-clause-not_ahead
returns-clause-not_ahead c = λ setting s n id f newest. f.producers.not_ahead n id newest

pub returns-clause-one_epoch : goal.returns-clause-one_epoch
returns-clause-one_epoch c = λ setting s m n id epoch f different one other. f.producers.apart_epochs m n id epoch different one other

pub returns-clause-known_epochs : goal.returns-clause-known_epochs
returns-clause-known_epochs c = λ setting s n id epoch f writes. f.producers.known_epochs n id epoch writes

pub returns-clause-numbers : goal.returns-clause-numbers
returns-clause-numbers c = λ setting s n id epoch f writes has. f.producers.numbers n id epoch writes has

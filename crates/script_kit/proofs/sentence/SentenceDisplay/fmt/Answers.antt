-- What is written is the text of the reason, which the arm knows.
use Rattle.script_kit.proofs.sentence.SentenceDisplay.fmt.Goals as goal

pub returns-in-Cut-clause-writes : goal.returns-in-Cut-clause-writes
returns-in-Cut-clause-writes g c = rw c.in-Cut.is c.write.ensures.writes

pub returns-in-Bytes-clause-writes : goal.returns-in-Bytes-clause-writes
returns-in-Bytes-clause-writes g c = rw c.in-Bytes.is c.write-in-Bytes.ensures.writes

pub returns-in-Spaces-clause-writes : goal.returns-in-Spaces-clause-writes
returns-in-Spaces-clause-writes g c = rw c.in-Spaces.is c.write-in-Spaces.ensures.writes

pub returns-in-Unknown-clause-writes : goal.returns-in-Unknown-clause-writes
returns-in-Unknown-clause-writes g c = rw c.in-Unknown.is c.write-in-Unknown.ensures.writes

pub returns-in-Count-clause-writes : goal.returns-in-Count-clause-writes
returns-in-Count-clause-writes g c = rw c.in-Count.is c.write-in-Count.ensures.writes

pub returns-in-Label-clause-writes : goal.returns-in-Label-clause-writes
returns-in-Label-clause-writes g c = rw c.in-Label.is c.write-in-Label.ensures.writes

pub returns-in-Kind-clause-writes : goal.returns-in-Kind-clause-writes
returns-in-Kind-clause-writes g c = rw c.in-Kind.is c.write-in-Kind.ensures.writes

pub returns-in-KindAsked-clause-writes : goal.returns-in-KindAsked-clause-writes
returns-in-KindAsked-clause-writes g c = rw c.in-KindAsked.is c.write-in-KindAsked.ensures.writes

pub returns-in-Uuid-clause-writes : goal.returns-in-Uuid-clause-writes
returns-in-Uuid-clause-writes g c = rw c.in-Uuid.is c.write-in-Uuid.ensures.writes

pub returns-in-NoNumber-clause-writes : goal.returns-in-NoNumber-clause-writes
returns-in-NoNumber-clause-writes g c = rw c.in-NoNumber.is c.write-in-NoNumber.ensures.writes

pub returns-in-TooGreat-clause-writes : goal.returns-in-TooGreat-clause-writes
returns-in-TooGreat-clause-writes g c = rw c.in-TooGreat.is c.write-in-TooGreat.ensures.writes

pub returns-in-Value-clause-writes : goal.returns-in-Value-clause-writes
returns-in-Value-clause-writes g c = rw c.in-Value.is c.write-in-Value.ensures.writes

pub returns-in-Shape-clause-writes : goal.returns-in-Shape-clause-writes
returns-in-Shape-clause-writes g c = rw c.in-Shape.is c.write-in-Shape.ensures.writes

pub returns-in-Attributes-clause-writes : goal.returns-in-Attributes-clause-writes
returns-in-Attributes-clause-writes g c = rw c.in-Attributes.is c.write-in-Attributes.ensures.writes

pub returns-in-Keep-clause-writes : goal.returns-in-Keep-clause-writes
returns-in-Keep-clause-writes g c = rw c.in-Keep.is c.write-in-Keep.ensures.writes

pub returns-in-Aggregation-clause-writes : goal.returns-in-Aggregation-clause-writes
returns-in-Aggregation-clause-writes g c = rw c.in-Aggregation.is c.write-in-Aggregation.ensures.writes

pub returns-in-Late-clause-writes : goal.returns-in-Late-clause-writes
returns-in-Late-clause-writes g c = rw c.in-Late.is c.write-in-Late.ensures.writes

pub returns-in-Early-clause-writes : goal.returns-in-Early-clause-writes
returns-in-Early-clause-writes g c = rw c.in-Early.is c.write-in-Early.ensures.writes

pub returns-in-Taken-clause-writes : goal.returns-in-Taken-clause-writes
returns-in-Taken-clause-writes g c = rw c.in-Taken.is c.write-in-Taken.ensures.writes

pub returns-in-Refused-clause-writes : goal.returns-in-Refused-clause-writes
returns-in-Refused-clause-writes g c = rw c.in-Refused.is c.write-in-Refused.ensures.writes

pub returns-in-NoWriter-clause-writes : goal.returns-in-NoWriter-clause-writes
returns-in-NoWriter-clause-writes g c = rw c.in-NoWriter.is c.write-in-NoWriter.ensures.writes

pub returns-in-NoInstrument-clause-writes : goal.returns-in-NoInstrument-clause-writes
returns-in-NoInstrument-clause-writes g c = rw c.in-NoInstrument.is c.write-in-NoInstrument.ensures.writes

pub returns-in-NoGateway-clause-writes : goal.returns-in-NoGateway-clause-writes
returns-in-NoGateway-clause-writes g c = rw c.in-NoGateway.is c.write-in-NoGateway.ensures.writes

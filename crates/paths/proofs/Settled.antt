-- Of the public function: no second answer satisfies its contract.
-- Assumes nothing.
use Rattle.shape.proofs.Single.{Settled, by-equation}
use Rattle.paths.proofs.survey.Kinds as survey-kinds
use Rattle.paths.proofs.survey.Reads as survey-reads

pub survey : Settled _ survey-kinds.ps survey-kinds.r survey-reads.Post
survey κs a x y e f = by-equation

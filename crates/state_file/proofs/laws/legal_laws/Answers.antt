use Rattle.state_file.proofs.Legal.{current-all, current-front, legal_beginning, one_current}
use Rattle.state_file.proofs.Contents.{no_key_cannot}
use Rattle.state_file.proofs.Moved.{moved_signs_nothing}
use Rattle.state_file.proofs.laws.legal_laws.Goals as goal

pub returns : goal.returns
returns c = record {
  current = λ records more k level tree within. (current-front records more k level tree within, current-all records more k level tree within);
  one_current = one_current;
  beginning = legal_beginning;
  no_key = λ content none can. no_key_cannot content none can;
  moved = moved_signs_nothing;
}

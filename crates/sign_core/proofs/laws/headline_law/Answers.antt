use Rattle.std.proofs.Common.{refl}
use Rattle.sign_core.proofs.laws.headline_law.Goals as goal
use Rattle.sign_core.proofs.calls.Headline.{headline, headline_moved}
use Rattle.state_file.specs.File.{most_records}

pub returns-clause-calls : goal.returns-clause-calls
returns-clause-calls c = λ call. headline c.D.Disk c.E.Disk _ c.R.Source c.M.Message call.signer_law.ensures.signer (record {
  shows = λ on honest. c.met.D.Disk.shows on honest;
  counts_now = λ on t content honest early may. c.met.D.Disk.counts_now on t content honest early may;
  only_now = λ on content honest since. c.met.D.Disk.only_now on content honest since;
}) (record {
  lists = λ old new list left. left;
  later = λ old new early. early;
  honest = λ old new same. same;
}) most_records (record {
  list = λ kept. refl;
  honest = λ kept. refl;
  most = λ kept. refl;
})

pub returns-clause-moved : goal.returns-clause-moved
returns-clause-moved c = λ call. headline_moved c.D.Disk c.E.Disk _ c.R.Source c.M.Message call.signer_law.ensures.signer (record {
  shows = λ on honest. c.met.D.Disk.shows on honest;
  counts_now = λ on t content honest early may. c.met.D.Disk.counts_now on t content honest early may;
  only_now = λ on content honest since. c.met.D.Disk.only_now on content honest since;
}) (record {
  lists = λ old new list left. left;
  later = λ old new early. early;
  honest = λ old new same. same;
}) most_records (record {
  list = λ kept. refl;
  honest = λ kept. refl;
  most = λ kept. refl;
}) _ call.signer_law-2.ensures.signer (record {
  shows = λ on honest. c.met.E.Disk.shows on honest;
  counts_now = λ on t content honest early may. c.met.E.Disk.counts_now on t content honest early may;
  only_now = λ on content honest since. c.met.E.Disk.only_now on content honest since;
}) (record {
  lists = λ old new list left. left;
  later = λ old new early. early;
  honest = λ old new same. same;
}) (record {
  list = λ kept. refl;
  honest = λ kept. refl;
  most = λ kept. refl;
})

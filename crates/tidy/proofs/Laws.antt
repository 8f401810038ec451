-- The laws of the tidy layout hold.
use Rattle.syntax.proofs.Complete.{unique}
use Rattle.tidy.specs.Tidy.{tidy_text}
use Rattle.tidy.specs.Laws.{Laws}
use Rattle.tidy.proofs.Cases.{cases-hold}
use Rattle.tidy.proofs.ReadBack.{tidy-reads}
use Rattle.tidy.proofs.Known.{tidy-known}
use Rattle.tidy.proofs.Written.{tidy-scan}
use Rattle.tidy.proofs.Answers.{tidy-answers, tidy-settled}
use Rattle.tidy.proofs.Same.{still-tidiable, same_check, same-tidy, same_read, same-convert}

pub laws-hold : Laws
laws-hold = record {
  cases = cases-hold;
  reads = tidy-reads;
  one = λ t g h x y. unique (tidy_text g) h g y (tidy-reads t g x);
  known = tidy-known;
  scans = tidy-scan;
  answers = tidy-answers;
  settled = tidy-settled;
  accepted = still-tidiable;
  checks = same_check;
  readings = same_read;
  conversions = same-convert;
  again = same-tidy;
}

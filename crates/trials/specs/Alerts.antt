-- Document 02, job 2: alert settings tried on a few verdicts, as one table, and one law that computes every case from the definitions.
--     AlertCase          settings, the verdicts that they are tried on, and the text that is printed
--     alert_cases         the table
--     alerts_agree       every case prints its text
use Rattle.std.specs.Prelude.{ℕ, ◌≡◌, refl, List, [], ◌∷◌, ◌++◌, map}
use Rattle.refusal.specs.Number.{line_form}
use Rattle.text.specs.Ascii.{ascii}
use Rattle.text.specs.Lines.{print_lines}
use Rattle.text.specs.Parts.{join}
use Rattle.number.specs.Number.{decimal, print, print_magnitude}
use Rattle.printing.specs.Clauses.{numbers_after}
use Rattle.reading.specs.Verdict.{refused_verdict, VerdictOutcome, Alarm, Quiet}
use Rattle.alert.specs.Alert.{Setting, ends_in, passed, raised, stands}
use Rattle.alert_trial.specs.Trial.{count, history_from, trial_lines}

pub record AlertCase : Type 0 where
  pub settings : List Setting
  pub verdicts : List VerdictOutcome
  pub printed : List ℕ

abbrev setting : ℕ → ℕ → Setting
setting k c = record { k = k; c = c }

-- an Alarm by 1, a Quiet, and a reading that is turned back
abbrev A : VerdictOutcome
A = Alarm 1

abbrev Q : VerdictOutcome
Q = Quiet

abbrev N : VerdictOutcome
N = refused_verdict line_form 1

pub alert_cases : List AlertCase
alert_cases =
    -- raised by the second Alarm, standing over one Quiet and an Alarm, cleared by the last Quiet
    record {
      settings = setting 2 2 ∷ [];
      verdicts = A ∷ A ∷ Q ∷ A ∷ Q ∷ Q ∷ [];
      printed = ascii "2,2,1,4\n" ++ ascii "6,3,3,0\n";
    }
    -- the same where readings are turned back between them
    ∷ record {
      settings = setting 2 2 ∷ [];
      verdicts = N ∷ A ∷ N ∷ A ∷ N ∷ Q ∷ A ∷ Q ∷ N ∷ Q ∷ N ∷ [];
      printed = ascii "2,2,1,4\n" ++ ascii "11,3,3,5\n";
    }
    -- the reading that raises it counts, the one that clears it does not
    ∷ record {
      settings = setting 2 2 ∷ [];
      verdicts = A ∷ A ∷ Q ∷ Q ∷ [];
      printed = ascii "2,2,1,2\n" ++ ascii "4,2,2,0\n";
    }
    ∷ record {
      settings = setting 2 2 ∷ [];
      verdicts = Q ∷ Q ∷ A ∷ A ∷ [];
      printed = ascii "2,2,1,1\n" ++ ascii "4,2,2,0\n";
    }
    -- every Alarm raises an alert and every Quiet clears it; a Quiet breaks a run of Alarms
    ∷ record {
      settings = setting 1 1 ∷ setting 2 1 ∷ setting 1 2 ∷ [];
      verdicts = A ∷ Q ∷ A ∷ Q ∷ [];
      printed = ascii "1,1,2,2\n" ++ ascii "2,1,0,0\n" ++ ascii "1,2,1,4\n" ++ ascii "4,2,2,0\n";
    }
    -- no reading that is accepted
    ∷ record { settings = setting 1 1 ∷ []; verdicts = N ∷ []; printed = ascii "1,1,0,0\n" ++ ascii "1,0,0,1\n" }
    ∷ []

pub alerts_agree : map (λ (t : AlertCase). print_lines (trial_lines t.settings t.verdicts)) alert_cases ≡ map (λ (t : AlertCase). t.printed) alert_cases
unfolding alert_cases print_lines join numbers_after print print_magnitude decimal history_from count ends_in stands passed raised
alerts_agree = refl

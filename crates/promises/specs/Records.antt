-- Demand 2, records, for the total, the row limit and the types of the calls.
--     Agreeing         a record in form, with what it states, agrees with rows and codes
--     RecordLines      a record as it is printed, line by line
--     FirstFaulty      11 at the first faulty line, from the lines before it
--     promise_2_10     what a record in form is, and which one is accepted (`RecordsRead`)
use Rattle.std.specs.Prelude.{◌+◌, ◌<◌, ℕ, ◌≡◌, ◌&&◌, true, List, [], ◌++◌, ◌∷◌, map, nat_abs, pos, ℤ, drop, get_or, length, take, ◌≢◌}
use Rattle.std.proofs.Math.Path.{refl}
use Rattle.std.proofs.Math.Option.{some}
use Rattle.std.proofs.Common.{arith}
use Rattle.refusal.specs.Number.{record_form}
use Rattle.refusal.specs.Outcome.{number_of, refused_at, Accepted}
use Rattle.limits.specs.Limits.{channel_limit, row_limit, total}
use Rattle.ball.specs.declared.Ball.{Ball}
use Rattle.checking.specs.Check.{checking}
use Rattle.text.specs.Lines.{print_lines}
use Rattle.text.specs.Parts.{comma, cut, join, line_end, text_within}
use Rattle.number.specs.Clauses.{magnitude_limit}
use Rattle.number.specs.Number.{print}
use Rattle.printing.specs.Clauses.{numbers_after}
use Rattle.channel.specs.Channel.{channel_types}
use Rattle.channel.specs.ChannelLaws.{house_sound}
use Rattle.heading.specs.Heading.{CodesWithin, print_heading}
use Rattle.agreement.specs.Agreement.{agrees, all_zero, ball_agrees}
use Rattle.record_lines.specs.Lines.{Result, Weight, centre_word, letter_of, print_centre, print_result, print_weight, record_word, result_word, weight_within, weight_word}
use Rattle.record_lines.specs.LinesLaws.{ResultWithin}
use Rattle.record_form.specs.FaultLaws.{AfterCentre, AfterHeading, AfterResult, AfterWeights, last_row}
use Rattle.record_form.specs.Record.{Record, Within, faulty, print_record, sound}
use Rattle.record_form.specs.RecordLaws.{form_printed, printed_form}
use Rattle.record_form.specs.Weights.{weights_of}
use Rattle.record_read.specs.Clauses.{ball_of_record, not_read, record_read, stated_envelope, EnvelopeRead}
use Rattle.typed_rows.specs.Given.{given_within}
use Rattle.record_read.specs.ReadLaws.{accepted-read, accepting, not_11_printed, printed_not_11, read-accepted, read_faulty}
use Rattle.promises.specs.House.{text_form}
use Rattle.record_form.specs.FaultLaws as fault-laws

module _ (rows : List ℤ) (m n : ℕ) (codes text : List ℕ) where
  abbrev answer : EnvelopeRead
  answer = record_read total row_limit channel_types rows m n codes text

  -- the record r is that of the text, states this ball, and agrees with the rows and the codes
  pub record Agreeing (r : Record) (ball : Ball) : Type 0 where
    pub given : given_within row_limit channel_types rows m n codes ≡ true
    pub some_text : text_within text ≡ true
    pub in_form : text_form text ≡ sound r
    pub states : ball_of_record r ≡ some ball
    pub same_codes : take n codes ≡ r.codes
    pub agreeing : agrees total row_limit rows m (length (take n codes)) ball (weights_of row_limit r.weights) ≡ true

  -- the lines of a record: `ENV`, n, tags; `C` and X; `R`, M, L, moves, `S` or `B`; `W`, row, weight
  pub record RecordLines : Type 0 where
    pub whole : (r : Record) → print_record channel_types r
        ≡ print_lines (print_heading record_word channel_types r.codes ∷ print_centre r.scaled_centre ∷ print_result r.result ∷ map print_weight r.weights)
    pub centre : (X : List ℤ) → print_centre X ≡ join comma (centre_word ∷ map print X)
    pub result : (x : Result) → print_result x
        ≡ join comma (result_word ∷ map print (x.scaled_squared_radius ∷ x.scaled_lower_bound ∷ pos x.moves ∷ [])) ++ (comma ∷ letter_of x.settled)
    pub weight : (x : Weight) → print_weight x ≡ join comma (weight_word ∷ map print (pos x.row ∷ pos x.weight ∷ []))

  -- 11 at this line
  abbrev FaultyAt : ℕ → Type 0
  FaultyAt line = answer ≡ not_read row_limit (refused_at record_form line)

  -- the lines before are each the printing of their part of a record within the limits (`AfterHeading`, `AfterCentre`, `AfterResult`,
  -- `AfterWeights`), this one is the printing of no such part, is not ended by byte 10, or is not there: then it is the one after the last
  pub record FirstFaulty : Type 0 where
    -- line 1, the heading
    pub heading_unended : (part : List ℕ) → cut line_end text ≡ part ∷ [] → FaultyAt 1
    pub heading_faulty : (line next : List ℕ) (parts : List (List ℕ)) → cut line_end text ≡ line ∷ next ∷ parts
        → ((stated : List ℕ) → CodesWithin channel_limit channel_types stated → print_heading record_word channel_types stated ≢ line) → FaultyAt 1
    -- line 2, `C`
    pub centre_unended : (stated part : List ℕ) → AfterHeading channel_types stated text (part ∷ []) → FaultyAt 2
    pub centre_faulty : (stated line next : List ℕ) (parts : List (List ℕ)) → AfterHeading channel_types stated text (line ∷ next ∷ parts)
        → ((X : List ℤ) → length X ≡ length stated → ((k : ℕ) → k < length X → nat_abs (get_or X k (pos 0)) < magnitude_limit) → print_centre X ≢ line)
        → FaultyAt 2
    -- line 3, `R`
    pub result_unended : (stated part : List ℕ) (X : List ℤ) → AfterCentre channel_types stated X text (part ∷ []) → FaultyAt 3
    pub result_faulty : (stated line next : List ℕ) (X : List ℤ) (parts : List (List ℕ)) → AfterCentre channel_types stated X text (line ∷ next ∷ parts)
        → ((x : Result) → ResultWithin x → print_result x ≢ line) → FaultyAt 3
    -- no `W` line
    pub weight_missing : (stated : List ℕ) (X : List ℤ) (x : Result) → AfterResult channel_types stated X x text ([] ∷ []) → FaultyAt 4
    -- a line after so many `W` lines; of a `W` line the row is past the last one and within the limit, the weight above 0
    pub weight_faulty : (r : Record) (line next : List ℕ) (parts : List (List ℕ)) → AfterWeights row_limit channel_types r text (line ∷ next ∷ parts)
        → ((w : Weight) → weight_within row_limit (last_row 0 r.weights) w ≡ true → w.weight < magnitude_limit → print_weight w ≢ line)
        → FaultyAt (4 + length r.weights)
    -- a piece without byte 10 at the end
    pub weight_unended : (r : Record) (b : ℕ) (part : List ℕ) → AfterWeights row_limit channel_types r text ((b ∷ part) ∷ [])
        → FaultyAt (4 + length r.weights)
    -- the case of `weight_faulty` whose line is empty, the printing of no `W` line
    pub weight_empty : (r : Record) (next : List ℕ) (parts : List (List ℕ)) → AfterWeights row_limit channel_types r text ([] ∷ next ∷ parts)
        → FaultyAt (4 + length r.weights)

  first_faulty : ((line : ℕ) → text_form text ≡ faulty line → FaultyAt line) → FirstFaulty
  first_faulty at =
      record {
        heading_unended = λ part is. at 1 (fault-laws.heading_unended row_limit channel_types text is);
        heading_faulty = λ line next parts is other.
            at 1 (fault-laws.heading_faulty row_limit channel_types text is (fault-laws.heading_unread channel_types house_sound line other));
        centre_unended = λ stated part begins. at 2 (fault-laws.centre_unended row_limit channel_types house_sound begins);
        centre_faulty = λ stated line next parts begins other.
            at 2 (fault-laws.centre_faulty row_limit channel_types house_sound begins (fault-laws.centre_unread (length stated) line other));
        result_unended = λ stated part X begins. at 3 (fault-laws.result_unended row_limit channel_types house_sound begins);
        result_faulty = λ stated line next X parts begins other.
            at 3 (fault-laws.result_faulty row_limit channel_types house_sound begins (fault-laws.result_unread line other));
        weight_missing = λ stated X x begins. at 4 (fault-laws.weight_missing row_limit channel_types house_sound begins);
        weight_faulty = λ r line next parts begins other.
            at (4 + length r.weights)
            (fault-laws.weight_faulty row_limit (omega arith) channel_types house_sound begins
            (fault-laws.weight_unread row_limit (last_row 0 r.weights) line other));
        weight_unended = λ r b part begins. at (4 + length r.weights) (fault-laws.weight_unended row_limit (omega arith) channel_types house_sound begins);
        weight_empty = λ r next parts begins. at (4 + length r.weights) (fault-laws.weight_empty row_limit (omega arith) channel_types house_sound begins);
      }

  pub record RecordsRead : Type 0 where
    pub printed_lines : RecordLines
    -- a text is in form exactly when it is the printing of a record within the limits
    pub form_printed : (r : Record) → text_form text ≡ sound r → Within row_limit channel_types r × (print_record channel_types r ≡ text)
    pub printed_form : (r : Record) → Within row_limit channel_types r → text_form (print_record channel_types r) ≡ sound r
    -- else 11 at the first faulty line
    pub faulty_line : (line : ℕ) → given_within row_limit channel_types rows m n codes ≡ true → text_within text ≡ true → text_form text ≡ faulty line
        → FaultyAt line
    -- which that is, from the lines before it
    pub first_faulty_line : given_within row_limit channel_types rows m n codes ≡ true → text_within text ≡ true → FirstFaulty
    -- so that a text of 1 to 65,536 bytes is not met by 11 exactly when it is such a printing
    pub not_11_printed : given_within row_limit channel_types rows m n codes ≡ true → text_within text ≡ true
        → (number_of answer.outcome ≡ record_form → ⊥) → (r : Record) × Within row_limit channel_types r × (print_record channel_types r ≡ text)
    pub printed_not_11 : (r : Record) → Within row_limit channel_types r → print_record channel_types r ≡ text → number_of answer.outcome ≡ record_form → ⊥
    -- accepted exactly when it agrees with rows and tags; the envelope is what it states
    pub accepted : answer.outcome ≡ Accepted → (r : Record) × (ball : Ball) × Agreeing r ball × (answer.envelope ≡ stated_envelope row_limit r ball)
    pub accepts : (r : Record) (ball : Ball) → Agreeing r ball → answer ≡ accepting (stated_envelope row_limit r ball)
    -- agreement is with what the check gives of the weights, none of which stands past the m rows
    pub agreement : (ball : Ball) (ws : List ℕ)
        → agrees total row_limit rows m n ball ws ≡ (all_zero (drop m ws) && ball_agrees n ball (checking total row_limit rows m n (take m ws)))

  pub promise_2_10 : RecordsRead
  unfolding agrees print_record print_centre print_result print_weight numbers_after
  promise_2_10 =
      record {
        printed_lines = record { whole = λ r. refl; centre = λ X. refl; result = λ x. refl; weight = λ x. refl };
        form_printed = form_printed row_limit channel_types house_sound text;
        printed_form = λ r within. printed_form row_limit channel_types house_sound r within (omega arith);
        faulty_line = λ line given some_text. read_faulty total row_limit channel_types rows m n codes text given some_text line;
        first_faulty_line = λ given some_text. first_faulty (read_faulty total row_limit channel_types rows m n codes text given some_text);
        not_11_printed = not_11_printed total row_limit channel_types house_sound rows m n codes text;
        printed_not_11 = printed_not_11 total row_limit channel_types house_sound rows m n codes text (omega arith);
        accepted = λ is.
            let a = accepted-read total row_limit channel_types rows m n codes text is in (
              a.stated,
              a.ball,
              record {
                given = a.given;
                some_text = a.some_text;
                in_form = a.in_form;
                states = a.states;
                same_codes = a.same_codes;
                agreeing = a.agreeing;
              },
              a.envelope_is,
            );
        accepts = λ r ball a.
            read-accepted total row_limit channel_types rows m n codes text (stated_envelope row_limit r ball)
            (record {
              given = a.given;
              some_text = a.some_text;
              stated = r;
              ball = ball;
              in_form = a.in_form;
              states = a.states;
              same_codes = a.same_codes;
              agreeing = a.agreeing;
              envelope_is = refl;
            });
        agreement = λ ball ws. refl;
      }

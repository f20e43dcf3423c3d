-- What is proved of the code of a call, in one word.
--     AnswersWhere 𝓛 𝓜 𝓡 T code name R P     called where R holds the code ends, and then P holds
--     Answers 𝓛 𝓜 𝓡 T code name P            the same of a call that asks nothing of its caller
--     answers_so                                 what follows from a fact that a call answers, it answers
-- 𝓤, 𝓛, 𝓜 and 𝓡 are the prover's models of the machine, over all of which each promise is stated; with 𝓡 comes an environment, which
-- says what each name in code runs. T is the signature of the call, `name` its name and `code` its code with that of all that it calls. What
-- is said is said of every environment that has this code (`Wired`). R is said of the lifetimes κs and the arguments a, P also of the result
-- r and the arguments at exit e. The arguments are a.0, a.1.0, a.1.1.0 .. in the order of the call's parameters, and e has them alike; `now`
-- is what a slice holds.
use seplogic.Ra.Ura.{Ura}
use base.Logic.{SProp}
use types.Logic.{Logic}
use contract.Lifetimes.{Lfts}
use contract.Monad.{fact_mono, fm→mono}
use contract.Notation
use contract.Running.{Running}
use denote.Triple.Clauses.{AtExit, Ended, at_exit}
use denote.Triple.Entry.{Args, Res}
use denote.Triple.Spec.{Meets, exits}
use denote.Triple.Table.{run_framed}
use denote.Triple.Weaken.{weaken}
use mir.Syntax.{Callee}
use prog.Model.{Model}
use prog.Wired.{Code, Wired}

module _ {M : Type 1} {𝓤 : Ura M} (𝓛 : Logic 𝓤) (𝓜 : Model 𝓤 𝓛.H) (𝓡 : Running 𝓤 𝓛.H 𝓜) (T : Ended) (code : Code) (name : Callee) where
  open 𝓛 use {H}

  abbrev pub AnswersWhere : ((κs : Lfts T.signature.lifetimes) → Args T.signature κs → SProp 𝓤)
      → ((κs : Lfts T.signature.lifetimes) → Args T.signature κs → Res T.signature κs → AtExit T κs → SProp 𝓤) → Type 1
  AnswersWhere R P =
      Wired 𝓡.env code
      → Meets 𝓛 T.signature (𝓡.run (𝓡.env name))
      (λ κs a.
      record {
        ghost = Unit {0};
        requires = λ _. R κs a;
        ensures = λ _ r. exits 𝓛 T.signature T.kept κs a (P κs a r);
      })

  abbrev pub Answers : ((κs : Lfts T.signature.lifetimes) → Args T.signature κs → Res T.signature κs → AtExit T κs → SProp 𝓤) → Type 1
  Answers = AnswersWhere (λ κs a. (Notation.connectives 𝓤).⊤ₛ)

  pub answers_so : (φ ψ : (κs : Lfts T.signature.lifetimes) → Args T.signature κs → Res T.signature κs → AtExit T κs → Type 0)
      → ((κs : Lfts T.signature.lifetimes) (a : Args T.signature κs) (r : Res T.signature κs) (e : AtExit T κs) → φ κs a r e → ψ κs a r e)
      → Answers (λ κs a r e. (Notation.connectives 𝓤).⌜◌⌝ (φ κs a r e)) → Answers (λ κs a r e. (Notation.connectives 𝓤).⌜◌⌝ (ψ κs a r e))
  answers_so φ ψ so meets wired =
      weaken 𝓛 T
      (λ κs a. record { ghost = Unit {0}; requires = λ _. (Notation.connectives 𝓤).⊤ₛ; ensures = λ _ r e. (Notation.connectives 𝓤).⌜◌⌝ (φ κs a r e) })
      (λ κs a _ r e. (Notation.connectives 𝓤).⌜◌⌝ (ψ κs a r e))
      (λ κs a _ r ws. fact_mono 𝓤 (φ κs a r (at_exit T κs a ws)) (ψ κs a r (at_exit T κs a ws)) (so κs a r (at_exit T κs a ws)))
      (𝓡.run (𝓡.env name)) (λ vs. fm→mono 𝓤 (𝓡.run (𝓡.env name) vs) (run_framed 𝓤 H 𝓜 𝓡 (𝓡.env name) vs)) (meets wired)

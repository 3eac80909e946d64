-- What is known of a near word.
use Rattle.std.proofs.Common.{◌≡◌, ◌∙◌, ◌<◌, ◌⊎◌, ℕ, List, Option, None, Some, IfSome, inl, inr, sym, map, length, get_or, ap, refl, subst, Contains, Bor, arith}
use Rattle.std.proofs.lemmas.List.{get_or-map, length-map}
use Rattle.std.proofs.lemmas.List.Elements.{Contains-get_or}
use Rattle.clap.specs.Words.{Text}
use Rattle.clap.specs.declared.error.Error.{Error}
use Rattle.command_line.specs.Inside.Putting.{IsCommandHint, IsOptionHint, hinted}
use Rattle.command_line.specs.Rules.{rule_of_value}
use Rattle.command_line.specs.Tasks.{command_rules}
use Rattle.command_line.specs.Uses.{IsNear, IsNearWord, IsOptionOf}
use Rattle.command_line.specs.declared.commands.Form.{Form}
use Rattle.command_line.specs.declared.commands.Form.TheVariants as form
use Rattle.command_line.specs.declared.commands.Name.{Name}
use Rattle.command_line.specs.declared.commands.Value.{Value}
use Rattle.command_line.specs.declared.words.near.Near.{Near}
use Rattle.command_line.specs.declared.words.usage.Misuse.TheVariants as misuse
use Rattle.command_line.specs.declared.words.uses.Hint.{Hint}
use Rattle.command_line.specs.declared.words.uses.Hint.TheVariants as hint

contains_map : {X Y : Type 0} (f : X → Y) (xs : List X) (x : X) → Contains xs x → Contains (map f xs) (f x)
contains_map f xs x h = (h.0, omega (arith, length-map xs f, h.1), get_or-map f xs h.0 x (f x) h.1 ∙ ap f h.2)

-- an option or a flag has its name as a rule
long_of : (v : Value) → (v.form ≡ form.Word → ⊥) → (rule_of_value v).long ≡ Some v.name.now
long_of v not_word = by_form v.form refl
  where
    by_form : (f : Form) → v.form ≡ f → (rule_of_value v).long ≡ Some v.name.now
    by_form form.Word is = absurd (not_word is)
    by_form form.Option is = rw is refl
    by_form form.Flag is = rw is refl

-- of the values of a command each that is no word is an option or a flag of it
option_at : (command : Name) (values : List Value) (i : ℕ) (none : Value) → map rule_of_value values ≡ command_rules command → i < length values → ((get_or values i none).form ≡ form.Word → ⊥) → IsOptionOf command (get_or values i none).name.now
option_at command values i none is within not_word =
    let value = get_or values i none in
    (rule_of_value value, subst (λ rules. Contains rules (rule_of_value value)) is (contains_map rule_of_value values value (Contains-get_or values i none within)), long_of value not_word)

-- what was found before is one, and so is what is found now
pub nearer_option : (command : Name) (given : Text) (values : List Value) (i : ℕ) (none : Value) (best found : Option Near) → map rule_of_value values ≡ command_rules command → i < length values → ((get_or values i none).form ≡ form.Word → ⊥) → IfSome best (λ near. IsOptionOf command near.word.now) → (found ≡ best) ⊎ IfSome found (λ near. (near.word.now ≡ (get_or values i none).name.now) × IsNear given (get_or values i none).name.now) → IfSome found (λ near. IsOptionOf command near.word.now)
nearer_option command given values i none best found is within not_word before h = elim h [
  | inl same ↦ subst (λ f. IfSome f (λ near. IsOptionOf command near.word.now)) (sym same) before
  | inr now ↦ by_found found now
]
  where
    by_found : (f : Option Near) → IfSome f (λ near. (near.word.now ≡ (get_or values i none).name.now) × IsNear given (get_or values i none).name.now) → IfSome f (λ near. IsOptionOf command near.word.now)
    by_found None now = tt
    by_found (Some near) now = rw now.0 (option_at command values i none is within not_word)

-- a hint is a near word
pub command_told : (given : Bor (List ℕ)) (h : Hint) → IsCommandHint given.now h → IsNearWord (misuse.UnknownCommand given) (hinted h)
command_told given hint.Nothing is = tt
command_told given (hint.Command word) is = is
command_told given (hint.Option word) is = absurd is

pub option_told : (command : Name) (e : Error) (h : Hint) → IsOptionHint command h → IsNearWord (misuse.Refused command e) (hinted h)
option_told command e hint.Nothing is = tt
option_told command e (hint.Command word) is = absurd is
option_told command e (hint.Option word) is = (word.now, is, refl)

-- A refusal's number is its discriminant.
use Rattle.std.proofs.Common.{◌≡◌, ◌+◌, refl}
use Rattle.rules.specs.declared.Refusal.{Refusal}
use Rattle.rules.specs.declared.Refusal.TheVariants.{Cards, Broken, Modulus, Card, Records, Output, Set, Sent, Lag, Text, Beat}
use Rattle.rules.specs.Refusals.{number_of}
use Rattle.rules.proofs.U32FromRefusal.from.Goals as goal

discriminant : (r : Refusal) → denote.Enum.Declared.tag_of Rattle.rules.specs.contracts.Refusal.the_type r + 1 ≡ number_of r
discriminant Cards = refl
discriminant Broken = refl
discriminant Modulus = refl
discriminant Card = refl
discriminant Records = refl
discriminant Output = refl
discriminant Set = refl
discriminant Sent = refl
discriminant Lag = refl
discriminant Text = refl
discriminant Beat = refl

pub returns : goal.returns
returns c = discriminant c.args.refusal

use Rattle.std.proofs.Common.{Ok, Err, arith}
use Rattle.std.proofs.lemmas.Grind.{common_steps}
use Rattle.refusal.specs.declared.hands.FileFault.TheVariants.{Length}
use Rattle.loaded.specs.Decode.{decode}
use Rattle.loaded.specs.Loaded.{loaded_model}
use Rattle.loaded.proofs.Taken.{takes}
use Rattle.loaded.proofs.loaded.Loaded.load.Goals as goal

pub returns-in_err-sections-clause-lawful : goal.returns-in_err-sections-clause-lawful
unfolding decode
returns-in_err-sections-clause-lawful c =
    let held = loaded_model c.args.self.now in
    takes c.args.bytes.now held held c.from_residual.result c.type_inv.bytes (grind (arith, common_steps)) (grind (arith, common_steps))

pub returns-then-not-is_empty-clause-lawful : goal.returns-then-not-is_empty-clause-lawful
unfolding decode
returns-then-not-is_empty-clause-lawful c =
    let held = loaded_model c.args.self.now in
    takes c.args.bytes.now held held (Err Length) c.type_inv.bytes (grind (arith, common_steps)) (grind (arith, common_steps))

pub returns-clause-lawful : goal.returns-clause-lawful
unfolding decode
returns-clause-lawful c =
    takes c.args.bytes.now (loaded_model c.args.self.now) _ (Ok tt) c.type_inv.bytes (grind (arith, common_steps)) (grind (arith, common_steps))

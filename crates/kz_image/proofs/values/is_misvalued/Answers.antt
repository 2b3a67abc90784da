use Rattle.std.proofs.Common.{◌∙◌, ap, sym}
use Rattle.kz_spec_data.specs.ImageRules.{is_misvalued}
use Rattle.kz_image.proofs.values.is_misvalued.Goals as goal

pub returns-in-RegisterBroker : goal.returns-in-RegisterBroker
returns-in-RegisterBroker c = c.is_broker_misvalued.ensures c.args.image.now ∙ ap (is_misvalued c.args.image.now) (sym c.in-RegisterBroker.is)

pub returns-in-Partition : goal.returns-in-Partition
returns-in-Partition c = c.is_partition_misvalued.ensures c.args.image.now ∙ ap (is_misvalued c.args.image.now) (sym c.in-Partition.is)

pub returns-in-Config : goal.returns-in-Config
returns-in-Config c = c.is_config_misvalued.ensures c.args.image.now ∙ ap (is_misvalued c.args.image.now) (sym c.in-Config.is)

pub returns-in-UserScramCredential : goal.returns-in-UserScramCredential
returns-in-UserScramCredential c = c.is_credential_misvalued.ensures c.args.image.now ∙ ap (is_misvalued c.args.image.now) (sym c.in-UserScramCredential.is)

pub returns-in-ProducerIds : goal.returns-in-ProducerIds
returns-in-ProducerIds c = c.is_block_misvalued.ensures c.args.image.now (sym c.next_producer.ensures.next) ∙ ap (is_misvalued c.args.image.now) (sym c.in-ProducerIds.is)

pub returns-in-AccessControlEntry : goal.returns-in-AccessControlEntry
returns-in-AccessControlEntry c = c.is_entry_misvalued.ensures c.args.image.now ∙ ap (is_misvalued c.args.image.now) (sym c.in-AccessControlEntry.is)

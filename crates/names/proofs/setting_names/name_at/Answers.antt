-- `name_at` meets its contract: by what the step that finds the setting at a fuse answers.
-- Assumes nothing.
use Rattle.names.proofs.AtFuse.{not_refused, has_there, bit_there, name_there, no_name_there}
use Rattle.names.proofs.setting_names.name_at.Goals as goal

pub unwrap-found-requires : goal.unwrap-found-requires
unwrap-found-requires c =
    let t = c.args.there in
    not_refused t.device.device t.fuse _ t.device.is_known t.is_there c.setting_at_fuse.ensures

pub invariant_of-setting : goal.invariant_of-setting
invariant_of-setting c =
    let t = c.args.there in
    record {
      is_there = has_there t.device.device t.fuse _ t.device.is_known t.is_there c.setting_at_fuse.ensures _
          c.unwrap-found.ensures _ c.in-Some.is;
    }

pub name_of_bit-requires : goal.name_of_bit-requires
name_of_bit-requires c =
    let t = c.args.there in
    bit_there t.device.device t.fuse _ t.device.is_known t.is_there c.setting_at_fuse.ensures _ c.unwrap-found.ensures _
    c.in-Some.is

pub returns-in-Some : goal.returns-in-Some
returns-in-Some c =
    let t = c.args.there in
    name_there t.device.device t.fuse _ t.device.is_known t.is_there c.setting_at_fuse.ensures _ c.unwrap-found.ensures _
    c.in-Some.is _ c.name_of_bit.ensures

pub returns-in-None : goal.returns-in-None
returns-in-None c =
    let t = c.args.there in
    no_name_there t.device.device t.fuse _ t.device.is_known t.is_there c.setting_at_fuse.ensures _ c.unwrap-found.ensures
    c.in-None.is _ c.no_name.ensures

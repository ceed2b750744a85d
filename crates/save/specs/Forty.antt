-- The record of a table's row is forty bytes.
use mathlib.Core.Path.{◌≡◌}
use lib.ListN.{length}
use Rattle.path.proofs.Structs.{valid_short, path_valid}
use Rattle.model.specs.Image.{node_record, attribute_record, permission_record, encode}
use Rattle.roundtrip.proofs.Records.{record_length}
use Rattle.tables.specs.declared.Node.{Node}
use Rattle.tables.specs.declared.Attribute.{Attribute}
use Rattle.tables.specs.declared.Permission.{Permission}
use Rattle.tables.specs.View.{view_node, view_attribute, view_permission, NodeSound, AttributeSound, PermissionSound}
use Rattle.tables.proofs.Rows.{node_path, attribute_path, permission_path}

pub node_forty : (a : Node) → NodeSound a → length (encode (node_record (view_node a))) ≡ 40
node_forty a h = record_length (node_record (view_node a)) (valid_short _ (path_valid (node_path h)))

pub attribute_forty : (a : Attribute) → AttributeSound a → length (encode (attribute_record (view_attribute a))) ≡ 40
attribute_forty a h = record_length (attribute_record (view_attribute a)) (valid_short _ (path_valid (attribute_path h)))

pub permission_forty : (a : Permission) → PermissionSound a → length (encode (permission_record (view_permission a))) ≡ 40
permission_forty a h = record_length (permission_record (view_permission a)) (valid_short _ (path_valid (permission_path h)))

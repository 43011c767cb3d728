pub mod OneLine
pub mod WholeReplies
pub mod FieldParts
pub mod WordParts

pub mod code_of_lines
pub mod line_forms
pub mod naming
pub mod op_lines
pub mod readings

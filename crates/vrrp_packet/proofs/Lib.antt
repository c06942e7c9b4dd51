mod Grammar
mod Written
